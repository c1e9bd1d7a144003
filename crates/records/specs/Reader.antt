-- What the reader answers: "the fixed fields or their absence", and one record by its number. Assumes nothing.
use Rattle.std.specs.Prelude.{◌≡◌, List, ℕ, ◌+◌, ◌≤◌, ℤ, length, option_map, Option, Some, None, Result, Ok}
use Rattle.octets.specs.Number.{part, signed}
use Rattle.octets.specs.Reasons.{decided}
use Rattle.refusals.specs.declared.Refusal.{Refusal}
use Rattle.refusals.specs.Refusals.{refuse, answer_of, verdict}
use Rattle.records.specs.Table as table
use Rattle.records.specs.Table.{Field, FixedType, fixed_types}
use Rattle.records.specs.Records.{field_of, header_of, records, record_by_record, header_says, nth, place_of}
use Rattle.records.specs.declared.Primary.{Primary}
use Rattle.records.specs.declared.Image.{Image}
use Rattle.records.specs.declared.Navigation.{Navigation}
use Rattle.records.specs.declared.Time.{Time}
use Rattle.records.specs.declared.Segment.{Segment}
use Rattle.records.specs.declared.Header.{Header}
use Rattle.records.specs.declared.Record.{Record}

-- a header that has its primary record whole, and of whose records none is refused by a table of fixed types
pub record Fine (types : List FixedType) (header : List ℕ) : Type 0 where
  pub long : 16 ≤ length header
  pub good : verdict (record_by_record types header) ≡ Ok tt

-- a place at which the header has so many octets of the record
abbrev pub StandsWhole : ℕ → List ℕ → Option ℕ → Type 0
StandsWhole size header s = (p : ℕ) → s ≡ Some p → p + size ≤ length header

-- the fields of each fixed type, in a record that begins at a place
unfoldable pub primary_of : List ℕ → Primary
primary_of xs =
    record {
      filetype = field_of xs 0 table.file_type;
      length = field_of xs 0 table.header_length;
      bits = field_of xs 0 table.data_bits;
    }

unfoldable pub image_at : List ℕ → ℕ → Image
image_at xs p =
    record {
      bits = field_of xs p table.bits_aPixel;
      columns = field_of xs p table.columns;
      lines = field_of xs p table.lines;
      compression = field_of xs p table.compression;
    }

-- "signed, 4 each"
abbrev pub signed_of : List ℕ → ℕ → Field → ℤ
signed_of xs p f = signed (field_of xs p f)

unfoldable pub name_at : List ℕ → ℕ → List ℕ
name_at xs p = part (p + (table.name).at) (table.name).width xs

unfoldable pub navigation_at : List ℕ → ℕ → Navigation
navigation_at xs p =
    record {
      name = name_at xs p;
      cfac = signed_of xs p table.CFAC;
      lfac = signed_of xs p table.LFAC;
      coff = signed_of xs p table.COFF;
      loff = signed_of xs p table.LOFF;
    }

unfoldable pub time_at : List ℕ → ℕ → Time
time_at xs p =
    record {
      pfield = field_of xs p table.p_field;
      days = field_of xs p table.days;
      milliseconds = field_of xs p table.milliseconds;
    }

unfoldable pub segment_at : List ℕ → ℕ → Segment
segment_at xs p =
    record { number = field_of xs p table.number; total = field_of xs p table.total; line = field_of xs p table.line }

-- "the fixed fields or their absence": something of the place of a record, where there is one
abbrev pub if_there : {A : Type 0} → (ℕ → A) → A → Option ℕ → A
if_there there absent (Some p) = there p
if_there there absent None = absent

abbrev pub image_if : List ℕ → Option ℕ → Option Image
image_if xs = option_map (image_at xs)

abbrev pub navigation_if : List ℕ → Option ℕ → Option Navigation
navigation_if xs = option_map (navigation_at xs)

abbrev pub time_if : List ℕ → Option ℕ → Option Time
time_if xs = option_map (time_at xs)

abbrev pub segment_if : List ℕ → Option ℕ → Option Segment
segment_if xs = option_map (segment_at xs)

-- each at the first record of its type
unfoldable pub image_of : List ℕ → Option Image
image_of xs = image_if xs (place_of 1 (records xs))

unfoldable pub navigation_of : List ℕ → Option Navigation
navigation_of xs = navigation_if xs (place_of 2 (records xs))

unfoldable pub time_of : List ℕ → Option Time
time_of xs = time_if xs (place_of 5 (records xs))

unfoldable pub segment_of : List ℕ → Option Segment
segment_of xs = segment_if xs (place_of 128 (records xs))

-- "The answer holds the fixed fields or their absence"
unfoldable pub fields_of : List ℕ → Header
fields_of xs =
    record {
      primary = primary_of xs;
      image = image_of xs;
      navigation = navigation_of xs;
      time = time_of xs;
      segment = segment_of xs;
    }

-- the fixed fields of a file's header, or the first number of 20 to 26 that applies
unfoldable pub read_header : List ℕ → Result Header Refusal
read_header file = decided (header_says fixed_types file) (Ok (fields_of (header_of file))) refuse

-- record n of a file's header: the same refusals, then 27
unfoldable pub read_record : List ℕ → ℕ → Result Record Refusal
read_record file n = decided (header_says fixed_types file) (nth (records (header_of file)) n) refuse

-- the paper's numbers
abbrev pub header_number : Result Header Refusal → ℕ
header_number = answer_of

abbrev pub record_number : Result Record Refusal → ℕ
record_number = answer_of
