-- The two answers in the paper's terms: its number and the values that go with it, for each case of each enum; and what the paper gives for a
-- file, from the table of fixed types and the list of the header's records alone. Assumes nothing.
use Rattle.std.specs.Prelude.{List, [], ◌∷◌, ◌++◌, map, ℕ, ◌+◌, leb, ℤ, length, get_or, Option, Some, None, Result, Ok, Err}
use Rattle.octets.specs.Number.{part, signed as signed_of, number_at}
use Rattle.octets.specs.Reasons.{decided}
use Rattle.octets.specs.Reasons.Reason.{◌when◌}
use Rattle.refusals.specs.declared.Refusal.{Refusal}
use Rattle.records.specs.Table.{Form, Field, FixedType, fixed_types}
use Rattle.records.specs.Table.Form.{as_number, as_signed, as_octets}
use Rattle.records.specs.Records.{header_of, record_at, records, header_says, place_of}
use Rattle.records.specs.Reader.{if_there, header_number, record_number}
use Rattle.records.specs.declared.Record.{Record}
use Rattle.records.specs.declared.Primary.{Primary}
use Rattle.records.specs.declared.Header.{Header}
use Rattle.records.specs.declared.Image.{Image}
use Rattle.records.specs.declared.Navigation.{Navigation}
use Rattle.records.specs.declared.Segment.{Segment}
use Rattle.records.specs.declared.Time.{Time}

pub data Value : Type 0 where
  number : ℕ → Value
  signed : ℤ → Value
  octets : List ℕ → Value

-- "the fixed fields or their absence"
pub data Row : Type 0 where
  there : List Value → Row
  absent : Row

-- an answer: the paper's number, and what goes with it
pub record Said : Type 0 where
  pub number : ℕ
  pub rows : List Row

abbrev pub says : ℕ → List Row → Said
says n rows = record { number = n; rows = rows }

-- "Every number but 0 carries no other result"
abbrev pub refused : ℕ → Said
refused n = says n []

-- What each case of the enums says: the fields in the paper's order.

-- "file type, 4 octets header length, 8 octets data field length in bits"
abbrev pub primary_said : Primary → Row
primary_said x = there (number x.filetype ∷ number x.length ∷ number x.bits ∷ [])

-- "bits a pixel 1, columns 2, lines 2, compression 1"
abbrev pub image_said : Option Image → Row
image_said (Some x) = there (number x.bits ∷ number x.columns ∷ number x.lines ∷ number x.compression ∷ [])
image_said None = absent

-- "name 32, then CFAC, LFAC, COFF, LOFF, signed, 4 each"
abbrev pub navigation_said : Option Navigation → Row
navigation_said (Some x) =
    there (octets x.name ∷ signed x.cfac ∷ signed x.lfac ∷ signed x.coff ∷ signed x.loff ∷ [])
navigation_said None = absent

-- "P-field 1, days 2, milliseconds 4"
abbrev pub time_said : Option Time → Row
time_said (Some x) = there (number x.pfield ∷ number x.days ∷ number x.milliseconds ∷ [])
time_said None = absent

-- "number 1, total 1, line 2"
abbrev pub segment_said : Option Segment → Row
segment_said (Some x) = there (number x.number ∷ number x.total ∷ number x.line ∷ [])
segment_said None = absent

-- types 0, 1, 2, 5 and 128
abbrev pub header_rows : Result Header Refusal → List Row
header_rows (Err n) = []
header_rows (Ok h) =
    primary_said h.primary ∷ image_said h.image ∷ navigation_said h.navigation ∷ time_said h.time ∷ segment_said h.segment ∷ []

unfoldable pub header_said : Result Header Refusal → Said
header_said a = says (header_number a) (header_rows a)

-- "its type, place and length"
abbrev pub found_said : Record → Row
found_said r = there (number r.kind ∷ number r.place ∷ number r.length ∷ [])

abbrev pub record_rows : Result Record Refusal → List Row
record_rows (Err n) = []
record_rows (Ok r) = found_said r ∷ []

unfoldable pub record_said : Result Record Refusal → Said
record_said a = says (record_number a) (record_rows a)

-- What the paper gives for a file.

abbrev pub value_by : Form → List ℕ → ℕ → ℕ → Value
value_by as_number header at width = number (number_at header at width)
value_by as_signed header at width = signed (signed_of (number_at header at width))
value_by as_octets header at width = octets (part at width header)

-- a field of the record that begins at a place
abbrev pub value_of : List ℕ → ℕ → Field → Value
value_of header place f = value_by f.form header (place + f.at) f.width

-- a fixed type: the fields of its record, or its absence
abbrev pub row_of : List ℕ → FixedType → Row
row_of header t = if_there (λ p. there (map (value_of header p) t.fields)) absent (place_of t.kind (records header))

-- "The answer holds the fixed fields or their absence"
unfoldable pub header_gives : List ℕ → Said
header_gives file = decided (header_says fixed_types file) (says 0 (map (row_of (header_of file)) fixed_types)) refused

-- "asked for record n, from 0, the reader gives its type, place and length, or 27": "no header record of the number asked for"
unfoldable pub record_gives : List ℕ → ℕ → Said
record_gives file n =
    let rs : List Record = records (header_of file) in
    decided (header_says fixed_types file ++ (27 when leb (length rs) n) ∷ [])
    (says 0 (found_said (get_or rs n (record_at (header_of file) 0)) ∷ []))
    refused
