-- How many octets entries and catalogues have. Assumes nothing.
use Rattle.std.specs.Prelude.{Option, Some, None}
use mathlib.Core.Path.{◌≡◌, refl, ap, ◌∙◌}
use mathlib.Core.List.{List, [], ◌∷◌, ◌++◌, map}
use Prim.Native.Nat.{ℕ, zero, suc, ◌*◌, ◌≤◌}
use native.Mathlib.Omega.{arith}
use lib.Dec.{eqb}
use lib.ListN.{length, get_or, length-append}
use Rattle.octets.proofs.Lists.{if-cases}
use Rattle.octets.proofs.Storing.{length-in_octets}
use Rattle.sections.specs.Sections.{Row, row, rows, section, sections}
use Rattle.sections.proofs.Growing.{rows_append, section-length}
use Rattle.catalogue.specs.declared.Entry.{Entry}
use Rattle.catalogue.specs.declared.Picture.{Picture}
use Rattle.catalogue.specs.Catalogue.{file_widths, file_row, image_widths, image_row, image_rows, channel_widths, channel_rows, how_many, channel_of, counted_channels, written, image_of, entry_of, list_of}
use Rattle.catalogue.proofs.Exact.{few-images, few-channels}

-- one entry of each section
pub file-fourteen : (e : Entry) → length (row file_widths (file_row e)) ≡ 14
file-fourteen e = simp (length-append, length-in_octets)

pub image-eight : (i : ℕ) (q : Option Picture) → length (rows image_widths (image_row i q)) ≡ length (image_row i q) * 8
unfolding rows
image-eight i None = refl
image-eight i (Some p) = simp (length-append, length-in_octets)

pub channel-three : (c n : ℕ) → length (row channel_widths (c ∷ n ∷ [])) ≡ 3
channel-three c n = simp (length-append, length-in_octets)

-- all entries of a section
pub files-length : (es : List Entry) → length (rows file_widths (map file_row es)) ≡ length es * 14
unfolding rows
files-length [] = refl
files-length (e ∷ es) =
    length-append (row file_widths (file_row e)) (rows file_widths (map file_row es)) ∙ omega (arith, file-fourteen e, files-length es)

pub images-length : (i : ℕ) (es : List Entry) → length (rows image_widths (image_rows i es)) ≡ length (image_rows i es) * 8
unfolding image_rows rows
images-length i [] = refl
images-length i (e ∷ es) =
    ap length (rows_append image_widths (image_row i e.image) (image_rows (suc i) es))
    ∙ omega (
      arith,
      length-append (rows image_widths (image_row i e.image)) (rows image_widths (image_rows (suc i) es)),
      length-append (image_row i e.image) (image_rows (suc i) es),
      image-eight i e.image,
      images-length (suc i) es,
    )

pub channels-length : (f : ℕ → ℕ) (k c : ℕ) → length (rows channel_widths (channel_rows f k c)) ≡ length (channel_rows f k c) * 3
unfolding channel_rows rows
channels-length f zero c = refl
channels-length f (suc k) c =
    if-cases (λ (rs : List Row). length (rows channel_widths rs) ≡ length rs * 3) (eqb (f c) 0) (λ q. channels-length f k (suc c))
    (λ q. length-append (row channel_widths (c ∷ f c ∷ [])) (rows channel_widths (channel_rows f k (suc c)))
    ∙ omega (arith, channel-three c (f c), channels-length f k (suc c)))

-- the longest catalogue has 22,723 octets
pub longest : (es : List Entry) → length es ≤ 1024 → length (written es) ≤ 22723
unfolding written sections
longest es h =
    let F = map file_row es in
    let I = image_rows 0 es in
    let C = counted_channels F in
    let count : ℕ → ℕ = λ (c : ℕ). how_many c (map channel_of F) in
    omega (
      arith,
      length-append (section file_widths F) (section image_widths I ++ (section channel_widths C ++ [])),
      length-append (section image_widths I) (section channel_widths C ++ []),
      length-append (section channel_widths C) [],
      section-length file_widths F,
      section-length image_widths I,
      section-length channel_widths C,
      files-length es,
      images-length 0 es,
      few-images 0 es,
      channels-length (λ (c : ℕ). how_many c (map channel_of F)) 63 0,
      few-channels (λ (c : ℕ). how_many c (map channel_of F)) 63 0,
    )

-- the list that two sections stand for has an entry for each file
pub list_length : (i : ℕ) (fs is : List Row) → length (list_of i fs is) ≡ length fs
unfolding list_of
list_length i [] is = refl
list_length i (f ∷ fs) [] = ap suc (list_length (suc i) fs [])
list_length i (f ∷ fs) (r ∷ rs) =
    if-cases (λ (es : List Entry). length es ≡ suc (length fs)) {x = entry_of f (image_of r) ∷ list_of (suc i) fs rs} {y = entry_of f None ∷ list_of (suc i) fs (r ∷ rs)} (eqb (get_or r 0 0) i)
    (λ q. ap suc (list_length (suc i) fs rs)) (λ q. ap suc (list_length (suc i) fs (r ∷ rs)))
