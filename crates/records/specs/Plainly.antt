-- The fields of the fixed record types in their octets, one by one, in a record that begins at place p: no word of the table. Assumes nothing.
use Rattle.std.specs.Prelude.{◌≡◌, List, ℕ, ◌+◌, ◌*◌, get_or}
use Rattle.octets.specs.Number.{signed}
use Rattle.records.specs.declared.Primary.{Primary}
use Rattle.records.specs.declared.Image.{Image}
use Rattle.records.specs.declared.Navigation.{Navigation}
use Rattle.records.specs.declared.Time.{Time}
use Rattle.records.specs.declared.Segment.{Segment}

-- "most significant octet first": two octets, and four
abbrev pub two : List ℕ → ℕ → ℕ
two xs at = get_or xs at 0 * 0x100 + get_or xs (at + 1) 0

abbrev pub four : List ℕ → ℕ → ℕ
four xs at = get_or xs at 0 * 0x1000000 + get_or xs (at + 1) 0 * 0x10000 + get_or xs (at + 2) 0 * 0x100 + get_or xs (at + 3) 0

-- "Primary (type 0): type, 2 octets length, file type, 4 octets header length, 8 octets data field length in bits."
pub record PrimaryPlainly (xs : List ℕ) (r : Primary) : Type 0 where
  pub filetype : r.filetype ≡ get_or xs 3 0
  pub long : r.length ≡ four xs 4
  pub bits : r.bits ≡ four xs 8 * 0x100000000 + four xs 12

-- "1 image structure, 9 (bits a pixel 1, columns 2, lines 2, compression 1)"
pub record ImagePlainly (xs : List ℕ) (p : ℕ) (r : Image) : Type 0 where
  pub bits : r.bits ≡ get_or xs (p + 3) 0
  pub columns : r.columns ≡ two xs (p + 4)
  pub lines : r.lines ≡ two xs (p + 6)
  pub compression : r.compression ≡ get_or xs (p + 8) 0

-- "2 navigation, 51 (name 32, then CFAC, LFAC, COFF, LOFF, signed, 4 each)"
pub record NavigationPlainly (xs : List ℕ) (p : ℕ) (r : Navigation) : Type 0 where
  pub cfac : r.cfac ≡ signed (four xs (p + 35))
  pub lfac : r.lfac ≡ signed (four xs (p + 39))
  pub coff : r.coff ≡ signed (four xs (p + 43))
  pub loff : r.loff ≡ signed (four xs (p + 47))

-- "5 time stamp, 10 (P-field 1, days 2, milliseconds 4)"
pub record TimePlainly (xs : List ℕ) (p : ℕ) (r : Time) : Type 0 where
  pub pfield : r.pfield ≡ get_or xs (p + 3) 0
  pub days : r.days ≡ two xs (p + 4)
  pub milliseconds : r.milliseconds ≡ four xs (p + 6)

-- "128 segment, 7 (number 1, total 1, line 2; 001 and 002)"
pub record SegmentPlainly (xs : List ℕ) (p : ℕ) (r : Segment) : Type 0 where
  pub number : r.number ≡ get_or xs (p + 3) 0
  pub total : r.total ≡ get_or xs (p + 4) 0
  pub line : r.line ≡ two xs (p + 5)
