-- "A catalogue of the night" (02, 5/14): what is written for a list of files, in the paper's order and words, and the tests by which it is read.
-- That they accept exactly what is written is proved (Promises.antt). Assumes nothing.
use Rattle.std.specs.Prelude.{◌≡◌, Bool, true, false, ◌&&◌, List, [], ◌∷◌, ◌++◌, map, ℕ, zero, suc, ◌+◌, ◌^◌, ◌≤◌, ◌<◌, leb, ltb, eqb, length, get_or, drop, if◌then◌else◌, Option, Some, None}
use Rattle.octets.specs.Each.{each}
use Rattle.facts.specs.declared.Facts.{Facts}
use Rattle.sections.specs.Sections.{Row, sections, section_of, extent, whole}
use Rattle.catalogue.specs.declared.Picture.{Picture}
use Rattle.catalogue.specs.declared.Entry.{Entry}

-- "Files, in order of completion: channel 1, application 2, file counter 2, L 8, file type 1."
abbrev pub file_widths : List ℕ
file_widths = 1 ∷ 2 ∷ 2 ∷ 8 ∷ 1 ∷ []

abbrev pub file_row : Entry → Row
file_row e = e.facts.channel.0 ∷ e.facts.application.0 ∷ e.facts.counter ∷ e.facts.bits ∷ e.kind ∷ []

-- "Images, one for each file with an image structure record, by rising index: index of the file (from 0) 2, columns 2, lines 2, segment
-- number 1, total 1"
abbrev pub image_widths : List ℕ
image_widths = 2 ∷ 2 ∷ 2 ∷ 1 ∷ 1 ∷ []

abbrev pub image_row : ℕ → Option Picture → List Row
image_row i None = []
image_row i (Some p) = (i ∷ p.columns ∷ p.lines ∷ p.number ∷ p.total ∷ []) ∷ []

-- of the files from index i on
unfoldable pub image_rows : ℕ → List Entry → List Row
image_rows i [] = []
image_rows i (e ∷ es) = image_row i e.image ++ image_rows (suc i) es

-- "Channels, rising, only those with files: channel 1, number of files 2."
abbrev pub channel_widths : List ℕ
channel_widths = 1 ∷ 2 ∷ []

-- how many of some numbers are c
unfoldable pub how_many : ℕ → List ℕ → ℕ
how_many c [] = 0
how_many c (x ∷ xs) = (if eqb c x then 1 else 0) + how_many c xs

-- of the k channels from c on, each with as many files as f says: those with files
unfoldable pub channel_rows : (ℕ → ℕ) → ℕ → ℕ → List Row
channel_rows f zero c = []
channel_rows f (suc k) c =
    if eqb (f c) 0 then channel_rows f k (suc c) else (c ∷ f c ∷ []) ∷ channel_rows f k (suc c)

abbrev pub channel_of : Row → ℕ
channel_of r = get_or r 0 0

-- "The channel counts always equal what counting the file section gives."
abbrev pub counted_channels : List Row → List Row
counted_channels fs = channel_rows (λ (c : ℕ). how_many c (map channel_of fs)) 63 0

abbrev pub widths : List (List ℕ)
widths = file_widths ∷ image_widths ∷ channel_widths ∷ []

abbrev pub tables : List Entry → List (List Row)
tables es = map file_row es ∷ image_rows 0 es ∷ counted_channels (map file_row es) ∷ []

-- "Stored form: three sections in a fixed order, each after its count of two octets."
unfoldable pub written : List Entry → List ℕ
written es = sections widths (tables es)

-- an image's numbers have room in their fields
pub data GoodImage : Option Picture → Type 0 where
  none : GoodImage None
  some : {p : Picture} → p.columns < 65536 → p.lines < 65536 → p.number < 256 → p.total < 256 → GoodImage (Some p)

-- "with channels 0 to 62, applications up to 2015 and L at least 1"; the others have room in their fields
pub record GoodEntry (e : Entry) : Type 0 where
  pub low : e.facts.channel.0 ≤ 62
  pub free : e.facts.application.0 ≤ 2015
  pub some : 1 ≤ e.facts.bits
  pub counted : e.facts.counter < 65536
  pub long : e.facts.bits < 2 ^ 64
  pub octet : e.kind < 256
  pub shown : GoodImage e.image

pub data AllGood : List Entry → Type 0 where
  none : AllGood []
  one : {e : Entry} {es : List Entry} → GoodEntry e → AllGood es → AllGood (e ∷ es)

-- "At most 1,024 files"
pub record Good (es : List Entry) : Type 0 where
  pub few : length es ≤ 1024
  pub all : AllGood es

-- "A stored catalogue is accepted exactly if it is what the writer writes for some list of files and image facts"
abbrev pub Catalogue : List ℕ → Type 0
Catalogue xs = (es : List Entry) × Good es × (xs ≡ written es)

-- The tests by which it is read, section by section.

-- a file's channel, application and L
abbrev pub good_file : Row → Bool
good_file r = leb (get_or r 0 0) 62 && leb (get_or r 1 0) 2015 && leb 1 (get_or r 3 0)

-- the first numbers of some rows rise, from i on, and are below n
unfoldable pub rising : ℕ → ℕ → List Row → Bool
rising i n [] = true
rising i n (r ∷ rs) = leb i (get_or r 0 0) && ltb (get_or r 0 0) n && rising (suc (get_or r 0 0)) n rs

unfoldable pub same_row : Row → Row → Bool
same_row [] [] = true
same_row [] (y ∷ ys) = false
same_row (x ∷ xs) [] = false
same_row (x ∷ xs) (y ∷ ys) = eqb x y && same_row xs ys

unfoldable pub same_rows : List Row → List Row → Bool
same_rows [] [] = true
same_rows [] (y ∷ ys) = false
same_rows (x ∷ xs) [] = false
same_rows (x ∷ xs) (y ∷ ys) = same_row x y && same_rows xs ys

-- the three sections of some octets
abbrev pub behind_files : List ℕ → List ℕ
behind_files xs = drop (extent file_widths xs) xs

abbrev pub behind_images : List ℕ → List ℕ
behind_images xs = drop (extent image_widths (behind_files xs)) (behind_files xs)

abbrev pub files_of : List ℕ → List Row
files_of xs = section_of file_widths xs

abbrev pub images_of : List ℕ → List Row
images_of xs = section_of image_widths (behind_files xs)

abbrev pub channels_of : List ℕ → List Row
channels_of xs = section_of channel_widths (behind_images xs)

unfoldable pub good_tables : List Row → List Row → List Row → Bool
good_tables fs is cs = leb (length fs) 1024 && each good_file fs && rising 0 (length fs) is && same_rows cs (counted_channels fs)

unfoldable pub accepts : List ℕ → Bool
accepts xs = whole widths xs && good_tables (files_of xs) (images_of xs) (channels_of xs)

-- The list that the sections stand for: file i has the image whose index is i, where the first one left is that.

abbrev pub picture_of : Row → Picture
picture_of r = record { columns = get_or r 1 0; lines = get_or r 2 0; number = get_or r 3 0; total = get_or r 4 0 }

abbrev pub image_of : Row → Option Picture
image_of r = Some (picture_of r)

abbrev pub facts_of : Row → Facts
facts_of f =
    record { channel = record { 0 = get_or f 0 0 }; application = record { 0 = get_or f 1 0 }; counter = get_or f 2 0; bits = get_or f 3 0 }

abbrev pub entry_of : Row → Option Picture → Entry
entry_of f i = record { facts = facts_of f; kind = get_or f 4 0; image = i }

unfoldable pub list_of : ℕ → List Row → List Row → List Entry
list_of i [] is = []
list_of i (f ∷ fs) [] = entry_of f None ∷ list_of (suc i) fs []
list_of i (f ∷ fs) (r ∷ rs) =
    if eqb (get_or r 0 0) i then entry_of f (image_of r) ∷ list_of (suc i) fs rs else entry_of f None ∷ list_of (suc i) fs (r ∷ rs)

-- the list that some octets are written for, where they are a catalogue
unfoldable pub listed : List ℕ → List Entry
listed xs = list_of 0 (files_of xs) (images_of xs)
