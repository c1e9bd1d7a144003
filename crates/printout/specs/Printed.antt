-- What is printed of the octets that were read (docs/CATALOGUE.md, `printout`). Assumes nothing.
use Rattle.std.specs.Prelude.{List, [], ◌∷◌, ◌++◌, ℕ, suc, length, get_or, if◌then◌else◌, Option, Some, None}
use Rattle.text.specs.Pieces.{ascii, spaced}
use Rattle.text.specs.Lines.{spaced_three, newline}
use Rattle.facts.specs.declared.Facts.{Facts}
use Rattle.sections.specs.Sections.{Row}
use Rattle.catalogue.specs.declared.Picture.{Picture}
use Rattle.catalogue.specs.declared.Entry.{Entry}
use Rattle.catalogue.specs.Catalogue.{accepts, files_of, images_of, channels_of, listed}

-- two words, each with "one space between" it and its number
abbrev pub both : List ℕ → ℕ → List ℕ → ℕ → List ℕ
both v m w n = v ++ spaced m ++ (w ++ spaced n)

-- "file 0 channel 5 application 160 counter 12 bits 65440 type 0"
abbrev pub facts_text : ℕ → Facts → ℕ → List ℕ
facts_text i f kind =
    both (ascii "file") i (ascii " channel") f.channel.0 ++ both (ascii " application") f.application.0 (ascii " counter") f.counter
    ++ both (ascii " bits") f.bits (ascii " type") kind

-- "image 2200 by 220 segment 3 of 10": columns and lines, segment number and total
abbrev pub picture_text : Picture → List ℕ
picture_text p = both (ascii " image") p.columns (ascii " by") p.lines ++ both (ascii " segment") p.number (ascii " of") p.total

-- "The part from `image` on stands only where the file has an entry in the image section."
abbrev pub image_text : Option Picture → List ℕ
image_text None = []
image_text (Some p) = picture_text p

abbrev pub file_line : ℕ → Entry → List ℕ
file_line i e = facts_text i e.facts e.kind ++ image_text e.image ++ newline

-- "a line for each file", from index i on
unfoldable pub file_lines : ℕ → List Entry → List ℕ
file_lines i [] = []
file_lines i (e ∷ es) = file_line i e ++ file_lines (suc i) es

-- "channel 1 files 1"
abbrev pub channel_line : ℕ → ℕ → List ℕ
channel_line channel files = both (ascii "channel") channel (ascii " files") files ++ newline

-- "then a line for each channel"
unfoldable pub channel_lines : List Row → List ℕ
channel_lines [] = []
channel_lines (r ∷ rs) = channel_line (get_or r 0 0) (get_or r 1 0) ++ channel_lines rs

-- "END 2 1 2": "The last line has the numbers of files, images and channels."
abbrev pub end_line : ℕ → ℕ → ℕ → List ℕ
end_line files images channels = ascii "END" ++ spaced_three files images channels ++ newline

-- "What is no catalogue prints one line, `refused 31`."
abbrev pub refused_line : List ℕ
refused_line = ascii "refused" ++ spaced 31 ++ newline

-- "`printout` .. prints it, a line for each file, then a line for each channel"
unfoldable pub printed : List ℕ → List ℕ
printed xs =
    if accepts xs
    then file_lines 0 (listed xs) ++ channel_lines (channels_of xs) ++ end_line (length (files_of xs)) (length (images_of xs)) (length (channels_of xs))
    else refused_line
