-- What is promised of the text, one sentence of the page after the other, as one statement. That it holds is proved (proofs/Promised.antt).
-- Assumes nothing.
use Rattle.std.specs.Prelude.{◌≡◌, List, ◌++◌, map, ℕ, length, take}
use Rattle.octets.specs.Number.{Octets}
use Rattle.catalogue.specs.declared.Entry.{Entry}
use Rattle.catalogue.specs.Catalogue.{file_row, image_rows, counted_channels, written, Good, Catalogue}
use Rattle.printout.specs.Printed.{file_lines, channel_lines, end_line, refused_line, printed}

-- what is printed of a list of files: "a line for each file, then a line for each channel"; "The last line has the numbers of files, images and
-- channels."
abbrev pub lines_of : List Entry → List ℕ
lines_of es =
    let cs = counted_channels (map file_row es) in
    file_lines 0 es ++ channel_lines cs ++ end_line (length es) (length (image_rows 0 es)) (length cs)

pub record Promises : Type 0 where
  -- what is written for a list of files is printed as this list
  pub list : (es : List Entry) → Good es → printed (written es) ≡ lines_of es
  -- "What is no catalogue prints one line, `refused 31`."
  pub none : (xs : List ℕ) → Octets xs → (Catalogue xs → ⊥) → printed xs ≡ refused_line
  -- "At most 32,768 octets are read, which is more than any catalogue has": what is printed of them is what would be printed of all
  pub cut : (xs : List ℕ) → Octets xs → printed (take 32768 xs) ≡ printed xs
