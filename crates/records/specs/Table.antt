-- "Header records": the record types whose length is fixed, and where their fields stand. Assumes nothing.
use Rattle.std.specs.Prelude.{List, [], ◌∷◌, ℕ, eqb, if◌then◌else◌, Option, Some, None}

-- how a field is read
pub data Form : Type 0 where
  as_number : Form
  as_signed : Form
  as_octets : Form

-- the octet of its record at which a field begins, its octets, and how it is read
pub record Field : Type 0 where
  pub at : ℕ
  pub width : ℕ
  pub form : Form

pub record FixedType : Type 0 where
  pub kind : ℕ
  pub size : ℕ
  pub fields : List Field

abbrev pub field : ℕ → ℕ → Field
field at width = record { at = at; width = width; form = as_number }

abbrev pub signed_field : ℕ → ℕ → Field
signed_field at width = record { at = at; width = width; form = as_signed }

abbrev pub octet_field : ℕ → ℕ → Field
octet_field at width = record { at = at; width = width; form = as_octets }

abbrev pub fixed : ℕ → ℕ → List Field → FixedType
fixed kind size fields = record { kind = kind; size = size; fields = fields }

-- "Primary (type 0): type, 2 octets length, file type, 4 octets header length, 8 octets data field length in bits."
abbrev pub file_type : Field
file_type = field 3 1

abbrev pub header_length : Field
header_length = field 4 4

abbrev pub data_bits : Field
data_bits = field 8 8

abbrev pub primary : FixedType
primary = fixed 0 16 (file_type ∷ header_length ∷ data_bits ∷ [])

-- "1 image structure, 9 (bits a pixel 1, columns 2, lines 2, compression 1)"
abbrev pub bits_aPixel : Field
bits_aPixel = field 3 1

abbrev pub columns : Field
columns = field 4 2

abbrev pub lines : Field
lines = field 6 2

abbrev pub compression : Field
compression = field 8 1

abbrev pub image_structure : FixedType
image_structure = fixed 1 9 (bits_aPixel ∷ columns ∷ lines ∷ compression ∷ [])

-- "2 navigation, 51 (name 32, then CFAC, LFAC, COFF, LOFF, signed, 4 each)"
abbrev pub name : Field
name = octet_field 3 32

abbrev pub CFAC : Field
CFAC = signed_field 35 4

abbrev pub LFAC : Field
LFAC = signed_field 39 4

abbrev pub COFF : Field
COFF = signed_field 43 4

abbrev pub LOFF : Field
LOFF = signed_field 47 4

abbrev pub navigation : FixedType
navigation = fixed 2 51 (name ∷ CFAC ∷ LFAC ∷ COFF ∷ LOFF ∷ [])

-- "5 time stamp, 10 (P-field 1, days 2, milliseconds 4)"
abbrev pub p_field : Field
p_field = field 3 1

abbrev pub days : Field
days = field 4 2

abbrev pub milliseconds : Field
milliseconds = field 6 4

abbrev pub time_stamp : FixedType
time_stamp = fixed 5 10 (p_field ∷ days ∷ milliseconds ∷ [])

-- "128 segment, 7 (number 1, total 1, line 2; 001 and 002)"
abbrev pub number : Field
number = field 3 1

abbrev pub total : Field
total = field 4 1

abbrev pub line : Field
line = field 5 2

abbrev pub segment : FixedType
segment = fixed 128 7 (number ∷ total ∷ line ∷ [])

-- "Fixed: 1 image structure, .. 128 segment. Type 0 counts as fixed too, 16"
abbrev pub fixed_types : List FixedType
fixed_types = primary ∷ image_structure ∷ navigation ∷ time_stamp ∷ segment ∷ []

-- "All other types have free length from 3."
unfoldable pub length_of : List FixedType → ℕ → Option ℕ
length_of [] kind = None
length_of (t ∷ ts) kind = if eqb kind t.kind then Some t.size else length_of ts kind
