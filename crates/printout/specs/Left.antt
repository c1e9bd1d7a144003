-- The list that the sections stand for, taken from them file by file. Means, all of it. Assumes nothing.
use Rattle.std.specs.Prelude.{List, [], ◌∷◌, ℕ, eqb, get_or, drop, if◌then◌else◌, Option, Some, None}
use Rattle.sections.specs.Sections.{Row}
use Rattle.catalogue.specs.declared.Entry.{Entry}
use Rattle.catalogue.specs.declared.Picture.{Picture}
use Rattle.catalogue.specs.Catalogue.{files_of, images_of, image_of, entry_of}

-- the image of file i, of the images that are left
unfoldable pub image_for : ℕ → List Row → Option Picture
image_for i [] = None
image_for i (r ∷ rs) = if eqb (get_or r 0 0) i then image_of r else None

-- how many images a file takes
abbrev pub taken : Option Picture → ℕ
taken None = 0
taken (Some p) = 1

-- file i, with j images taken by the files in front of it
abbrev pub entry_at : List ℕ → ℕ → ℕ → Entry
entry_at xs i j = entry_of (get_or (files_of xs) i []) (image_for i (drop j (images_of xs)))
