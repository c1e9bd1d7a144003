-- The list that the sections stand for, taken from them file by file. Assumes nothing.
use Rattle.std.specs.Prelude.{if◌then◌else◌, Option, Some, None}
use mathlib.Core.Path.{◌≡◌, refl, sym, ap, ap₂, ◌∙◌}
use mathlib.Core.Bool.{Bool, true, false}
use mathlib.Core.List.{List, [], ◌∷◌}
use Prim.Native.Nat.{ℕ, suc, ◌+◌, ◌*◌, ◌<◌, ◌≤◌}
use native.Mathlib.Omega.{arith}
use borrow.Author.Tests.{eq-eqb, ne_eqb}
use lib.Dec.{eqb}
use lib.ListN.{length, get_or, drop, drop_of_length-le}
use lib.Seq.{drop-cons}
use Rattle.octets.proofs.Lists.{if-cases}
use Rattle.sections.specs.Sections.{Row, values}
use Rattle.catalogue.specs.declared.FileEntry.{FileEntry}
use Rattle.catalogue.specs.declared.ImageEntry.{ImageEntry}
use Rattle.catalogue.specs.declared.Places.{Places}
use Rattle.catalogue.specs.declared.Picture.{Picture}
use Rattle.catalogue.specs.Catalogue.{file_widths, image_widths, images_of, image_of, entry_of, list_of}
use Rattle.catalogue.specs.Reading.{Lies}
use Rattle.catalogue.specs.Asking.{file_entry, image_entry}
use Rattle.catalogue.proofs.Asking.{image-count, file-stands, image-stands}
use Rattle.printout.specs.Left.{image_for, taken, entry_at}

-- the first file with its image, and what is left behind it
pub list-next : (i : ℕ) (f : Row) (fs rs : List Row)
    → list_of i (f ∷ fs) rs ≡ entry_of f (image_for i rs) ∷ list_of (suc i) fs (drop (taken (image_for i rs)) rs)
unfolding list_of image_for
list-next i f fs [] = refl
list-next i f fs (r ∷ rs) = go (eqb (get_or r 0 0) i)
  where
    go : (b : Bool)
        → (if b then entry_of f (image_of r) ∷ list_of (suc i) fs rs else entry_of f None ∷ list_of (suc i) fs (r ∷ rs))
        ≡ entry_of f (if b then image_of r else None) ∷ list_of (suc i) fs (drop (taken (if b then image_of r else None)) (r ∷ rs))
    go true = refl
    go false = refl

-- no image is taken but one that is left
pub taken-few : (i : ℕ) (rs : List Row) → taken (image_for i rs) ≤ length rs
unfolding image_for
taken-few i [] = omega arith
taken-few i (r ∷ rs) = if-cases (λ (p : Option Picture). taken p ≤ suc (length rs)) (eqb (get_or r 0 0) i) (λ q. omega arith) (λ q. omega arith)

for-none : (i : ℕ) {rs : List Row} → rs ≡ [] → None ≡ image_for i rs
unfolding image_for
for-none i e = rw e

module _ (i : ℕ) {r : Row} {rest rs : List Row} (e : rs ≡ r ∷ rest) where
  for-other : (get_or r 0 0 ≡ i → ⊥) → None ≡ image_for i rs
  unfolding image_for
  for-other n = rw (e, ne_eqb (get_or r 0 0) i n)

  for-this : get_or r 0 0 ≡ i → image_of r ≡ image_for i rs
  unfolding image_for
  for-this q = rw (e, eq-eqb (get_or r 0 0) i q)

module _ {xs : List ℕ} {at : Places} (L : Lies xs at) (i j : ℕ) where
  -- no image is left
  pub image-none : j ≡ at.images → None ≡ image_for i (drop j (images_of xs))
  image-none h =
      let all : length (images_of xs) ≤ j = omega (arith, image-count L) in
      for-none i (drop_of_length-le (images_of xs) all)

  -- the first one that is left, where one is
  module _ (h : j < at.images) {e : ImageEntry} (s : e ≡ image_entry (values image_widths xs (at.second + 2 + j * 8))) where
    stands : e ≡ image_entry (get_or (images_of xs) j [])
    stands = s ∙ ap (λ (r : Row). image_entry r) (sym (image-stands L j h))

    left : drop j (images_of xs) ≡ get_or (images_of xs) j [] ∷ drop (suc j) (images_of xs)
    left = drop-cons (images_of xs) j [] (omega (arith, image-count L))

    index : e.index ≡ get_or (get_or (images_of xs) j []) 0 0
    index = ap (λ (x : ImageEntry). x.index) stands

    pub image-other : (e.index ≡ i → ⊥) → None ≡ image_for i (drop j (images_of xs))
    image-other n = for-other i left (λ q. n (index ∙ q))

    pub image-this : e.index ≡ i → Some e.picture ≡ image_for i (drop j (images_of xs))
    image-this q = ap (λ (x : ImageEntry). Some x.picture) stands ∙ for-this i left (sym index ∙ q)

  pub entry-made : i < at.files → {f : FileEntry} {p : Option Picture} → f ≡ file_entry (values file_widths xs (2 + i * 14))
      → p ≡ image_for i (drop j (images_of xs)) → record { facts = f.facts; kind = f.kind; image = p } ≡ entry_at xs i j
  entry-made h {f} {p} e q =
      ap₂ (λ (x : FileEntry) (y : Option Picture). record { facts = x.facts; kind = x.kind; image = y }) (e ∙ ap (λ (r : Row). file_entry r) (sym (file-stands L i h))) q
