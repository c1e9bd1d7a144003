-- The records of a header, in order, and what is refused of them ("Header records", refusals 20 to 26). Assumes nothing.
use Rattle.std.specs.Prelude.{Bool, true, false, not, ◌&&◌, ◌||◌, List, [], ◌∷◌, ◌++◌, ℕ, zero, suc, ◌+◌, ltb, eqb, length, take, if◌then◌else◌, Option, Some, None, Result, Ok}
use Rattle.octets.specs.Number.{number_at, rounded_up}
use Rattle.octets.specs.Reasons.{Reason}
use Rattle.octets.specs.Reasons.Reason.{◌when◌}
use Rattle.refusals.specs.declared.Refusal.{Refusal}
use Rattle.refusals.specs.Refusals.{refuse}
use Rattle.records.specs.Table.{Field, FixedType, header_length, data_bits, length_of}
use Rattle.records.specs.declared.Record.{Record}

-- a field of the record that begins at a place
abbrev pub field_of : List ℕ → ℕ → Field → ℕ
field_of xs place f = number_at xs (place + f.at) f.width

-- the header: as many octets of the file as its primary record says
abbrev pub header_of : List ℕ → List ℕ
header_of file = take (field_of file 0 header_length) file

-- "type, 2 octets length that counts the whole record": the record at a place, read as far as the header goes
unfoldable pub record_at : List ℕ → ℕ → Record
record_at header at = record { kind = number_at header at 1; place = at; length = number_at header (at + 1) 2 }

-- "23: record under 3 octets long, or passing the header's end, or under 3 octets left for it"
unfoldable pub is_cut : ℕ → Record → Bool
is_cut end r = ltb r.length 3 || ltb end (r.place + r.length) || ltb end (r.place + 3)

-- the next record begins where this one ends; behind one that 23 refuses none can be found
unfoldable pub after : ℕ → Record → ℕ
after end r = if is_cut end r then end else r.place + r.length

-- "Others follow up to the header length": the records from a place on, k at most
unfoldable pub records_from : ℕ → List ℕ → ℕ → List Record
records_from zero header at = []
records_from (suc k) header at =
    if ltb at (length header) then record_at header at ∷ records_from k header (after (length header) (record_at header at)) else []

-- the records of a header; there are no more of them than octets
unfoldable pub records : List ℕ → List Record
records header = records_from (length header) header 0

-- "24 / 25: fixed length wrong / fixed type seen twice", by whichever table of fixed types the reader has
abbrev pub wrong_length : Option ℕ → ℕ → Bool
wrong_length (Some n) size = not (eqb size n)
wrong_length None size = false

abbrev pub is_fixed : Option ℕ → Bool
is_fixed (Some n) = true
is_fixed None = false

abbrev pub type_says : List FixedType → ℕ → ℕ → Bool → List Reason
type_says types kind size seen =
    (24 when wrong_length (length_of types kind) size) ∷ (25 when (is_fixed (length_of types kind) && seen)) ∷ []

-- 23 before both; seen tells whether the type was
abbrev pub record_says : List FixedType → ℕ → Bool → Record → List Reason
record_says types end seen r = (23 when is_cut end r) ∷ type_says types r.kind r.length seen

-- whether a type is among those of some records
unfoldable pub seen_in : List Record → ℕ → Bool
seen_in [] kind = false
seen_in (r ∷ rs) kind = eqb kind r.kind || seen_in rs kind

-- "23, 24, 25 are tried record by record, in that order", with the records before each
unfoldable pub records_say : List FixedType → ℕ → List Record → List Record → List Reason
records_say types end before [] = []
records_say types end before (r ∷ rs) = record_says types end (seen_in before r.kind) r ++ records_say types end (r ∷ before) rs

-- the same of a whole header
abbrev pub record_by_record : List FixedType → List ℕ → List Reason
record_by_record types header = records_say types (length header) [] (records header)

-- "data field bits rounded up to octets"
abbrev pub octets_for : ℕ → ℕ
octets_for bits = rounded_up bits

-- "26: lent octets not header length plus data field bits rounded up to octets"
abbrev pub size_says : ℕ → ℕ → ℕ → List Reason
size_says lent end bits = (26 when not (eqb lent (end + octets_for bits))) ∷ []

-- "21: first record not type 0, length 16"
abbrev pub starts_primary : List ℕ → Bool
starts_primary file = eqb (number_at file 0 1) 0 && eqb (number_at file 1 2) 16

-- "20: header: fewer than 16 octets", 21, "22: header length under 16 or beyond the octets lent", then record by record, then 26
unfoldable pub header_says : List FixedType → List ℕ → List Reason
header_says types file =
    let end : ℕ = field_of file 0 header_length in
    (20 when ltb (length file) 16)
    ∷ (21 when not (starts_primary file))
    ∷ (22 when (ltb end 16 || ltb (length file) end))
    ∷ record_by_record types (header_of file) ++ size_says (length file) end (field_of file 0 data_bits)

-- "asked for record n, from 0, the reader gives its type, place and length, or 27"
unfoldable pub nth : List Record → ℕ → Result Record Refusal
nth [] n = refuse 27
nth (r ∷ rs) zero = Ok r
nth (r ∷ rs) (suc n) = nth rs n

-- the first record of a type
unfoldable pub place_of : ℕ → List Record → Option ℕ
place_of kind [] = None
place_of kind (r ∷ rs) = if eqb r.kind kind then Some r.place else place_of kind rs
