-- docs/VECTORS.md, the questions `H` and `R`: the text of what the reader of header records answers. Assumes nothing.
use Rattle.std.specs.Prelude.{List, [], ◌++◌, ℕ, ℤ, pos, nat_abs, Option, Some, None, Result, Ok, Err}
use Rattle.std.specs.Int.Signed.{lt_z}
use Rattle.refusals.specs.declared.Refusal.{Refusal}
use Rattle.text.specs.Pieces.{ascii, spaced, spaced_signed, in_hex}
use Rattle.text.specs.Lines.{spaced_three}
use Rattle.records.specs.declared.Primary.{Primary}
use Rattle.records.specs.declared.Header.{Header}
use Rattle.records.specs.declared.Image.{Image}
use Rattle.records.specs.declared.Navigation.{Navigation}
use Rattle.records.specs.declared.Record.{Record}
use Rattle.records.specs.declared.Segment.{Segment}
use Rattle.records.specs.declared.Time.{Time}

-- "the four numbers behind it are signed, a minus in front of a negative one"
unfoldable pub signed_text : ℤ → List ℕ
signed_text v = spaced_signed (lt_z v (pos 0)) (nat_abs v)

abbrev pub signed_pair : ℤ → ℤ → List ℕ
signed_pair v w = signed_text v ++ signed_text w

-- "`primary filetype headerlength bits`"
unfoldable pub primary_text : Primary → List ℕ
primary_text p = ascii " primary" ++ spaced_three p.filetype p.length p.bits

-- "An absent record prints nothing", and each of the others:
-- "`image bits columns lines compression`"
unfoldable pub image_text : Option Image → List ℕ
image_text (Some i) = ascii " image" ++ spaced_three i.bits i.columns i.lines ++ spaced i.compression
image_text None = []

-- "`navigation NAME cfac lfac coff loff`": "NAME is the 32 octets as 64 hexadecimal digits"
unfoldable pub navigation_text : Option Navigation → List ℕ
navigation_text (Some n) =
    ascii " navigation " ++ in_hex n.name ++ signed_pair n.cfac n.lfac ++ signed_pair n.coff n.loff
navigation_text None = []

-- "`time pfield days milliseconds`"
unfoldable pub time_text : Option Time → List ℕ
time_text (Some t) = ascii " time" ++ spaced_three t.pfield t.days t.milliseconds
time_text None = []

-- "`segment number total line`"
unfoldable pub segment_text : Option Segment → List ℕ
segment_text (Some s) = ascii " segment" ++ spaced_three s.number s.total s.line
segment_text None = []

-- "After 0 `H 0 primary ..`, then for each of these records that is present, in this order whatever their order in the file"
unfoldable pub fields_text : Header → List ℕ
fields_text h =
    ascii "H" ++ spaced 0 ++ primary_text h.primary ++ image_text h.image ++ navigation_text h.navigation ++ time_text h.time
    ++ segment_text h.segment

-- "`H answer` after a refusal (20 to 26)"
unfoldable pub header_text : Result Header Refusal → List ℕ
header_text (Err n) = ascii "H" ++ spaced n.0
header_text (Ok h) = fields_text h

-- "`R answer` after a refusal (20 to 27), else `R 0 type place length` of record n"
unfoldable pub record_text : Result Record Refusal → List ℕ
record_text (Err n) = ascii "R" ++ spaced n.0
record_text (Ok r) = ascii "R" ++ spaced 0 ++ spaced_three r.kind r.place r.length
