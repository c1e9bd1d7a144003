-- The page's own example, computed. Assumes nothing.
use mathlib.Core.Path.{◌≡◌, refl}
use mathlib.Core.List.{List, [], ◌∷◌, ◌++◌}
use Prim.Native.Nat.{ℕ}
use Rattle.octets.specs.Each.{each}
use Rattle.octets.specs.Number.{number, number_at}
use Rattle.text.specs.Pieces.{ascii, unled, decimal, spaced}
use Rattle.text.specs.Lines.{newline}
use Rattle.sections.specs.Sections.{entries, extent, section_of, whole}
use Rattle.catalogue.specs.Catalogue.{how_many, channel_rows, rising, same_row, same_rows, good_tables, accepts, list_of, listed}
use Rattle.printout.specs.Printed.{file_lines, channel_lines, printed}

-- two files, one with an image, on channels 5 and 1: a line an entry
abbrev two : List ℕ
two =
    0 ∷ 2
    ∷ 5 ∷ 0 ∷ 160 ∷ 0 ∷ 12 ∷ 0 ∷ 0 ∷ 0 ∷ 0 ∷ 0 ∷ 0 ∷ 255 ∷ 160 ∷ 0
    ∷ 1 ∷ 0 ∷ 32 ∷ 0 ∷ 255 ∷ 0 ∷ 0 ∷ 0 ∷ 0 ∷ 0 ∷ 0 ∷ 0 ∷ 12 ∷ 2
    ∷ 0 ∷ 1
    ∷ 0 ∷ 0 ∷ 8 ∷ 152 ∷ 0 ∷ 220 ∷ 3 ∷ 10
    ∷ 0 ∷ 2
    ∷ 1 ∷ 0 ∷ 1
    ∷ 5 ∷ 0 ∷ 1
    ∷ []

two-printed : printed two
    ≡ ascii "file 0 channel 5 application 160 counter 12 bits 65440 type 0 image 2200 by 220 segment 3 of 10" ++ newline
    ++ ascii "file 1 channel 1 application 32 counter 255 bits 12 type 2" ++ newline
    ++ ascii "channel 1 files 1" ++ newline
    ++ ascii "channel 5 files 1" ++ newline
    ++ ascii "END 2 1 2" ++ newline
unfolding printed accepts good_tables whole extent section_of entries number_at number each rising same_row same_rows channel_rows how_many listed list_of file_lines channel_lines spaced decimal unled
two-printed = refl

none-printed : printed [] ≡ ascii "refused 31" ++ newline
unfolding printed accepts good_tables whole extent section_of entries number_at number each rising same_row same_rows channel_rows how_many spaced decimal unled
none-printed = refl
