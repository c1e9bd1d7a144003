-- What the reader's tests say together. Assumes nothing.
use Rattle.std.specs.Prelude.{if◌then◌else◌, Option, Some, None}
use mathlib.Core.Path.{◌≡◌, refl, sym, ap, ap₂, ◌∙◌, subst}
use mathlib.Core.Bool.{Bool, true, false, not, ◌&&◌, and-false, false≢true}
use mathlib.Core.List.{List, [], ◌∷◌, map}
use Prim.Native.Nat.{ℕ, ◌+◌, ◌*◌, ◌<◌, ◌≤◌}
use native.Mathlib.Nat.{add-zero}
use native.Mathlib.Omega.{arith}
use borrow.Author.Tests.{le-leb, lt-leb}
use lib.Dec.{leb}
use lib.ListN.{drop, get_or, replicate}
use lib.Seq.{drop-drop}
use Rattle.octets.specs.Number.{number_at}
use Rattle.octets.specs.Each.{each}
use Rattle.octets.proofs.Tests.{and_left, denied, granted}
use Rattle.catalogue.specs.declared.Places.{Places}
use Rattle.sections.specs.Sections.{Row, size, entries, extent, section_of, whole, whole_by}
use Rattle.catalogue.specs.Catalogue.{file_widths, image_widths, channel_widths, widths, behind_files, behind_images, files_of, images_of, channels_of, good_file, rising, same_rows, channel_rows, channel_of, counted_channels, good_tables, accepts}
use Rattle.catalogue.specs.Reading.{tallied, places_of, found_in, Lies}
use Rattle.sections.proofs.Parts.{length-entries}
use Rattle.sections.proofs.Chain.{whole_by_lem}
use Rattle.octets.proofs.Numbers.{number_at-drop}
use Rattle.catalogue.proofs.Walks.{lies-three}
use Rattle.catalogue.proofs.Counting.{counted}

section_of-at : (ws s : List ℕ) (p x : ℕ) → x ≡ number_at s p 2 → section_of ws (drop p s) ≡ entries ws x (drop (p + 2) s)
unfolding section_of
section_of-at ws s p x e =
    ap₂ (entries ws) (number_at-drop p s 0 2 ∙ ap (λ (k : ℕ). number_at s k 2) (add-zero p) ∙ sym e) (drop-drop 2 p s)

behind-at : (ws s : List ℕ) (p x : ℕ) → x ≡ number_at s p 2 → drop (extent ws (drop p s)) (drop p s) ≡ drop (p + (2 + x * size ws)) s
unfolding extent
behind-at ws s p x e =
    ap (λ (k : ℕ). drop (2 + k * size ws) (drop p s)) (number_at-drop p s 0 2 ∙ ap (λ (k : ℕ). number_at s k 2) (add-zero p) ∙ sym e)
    ∙ drop-drop (2 + x * size ws) p s

module _ {xs : List ℕ} {r : Places} (L : Lies xs r) where
  pub files-at : files_of xs ≡ entries file_widths r.files (drop 2 xs)
  files-at = section_of-at file_widths xs 0 r.files L.files

  second_at : behind_files xs ≡ drop r.second xs
  second_at =
      let e : 0 + (2 + r.files * 14) ≡ r.second = omega (arith, L.second) in
      behind-at file_widths xs 0 r.files L.files ∙ ap (λ (k : ℕ). drop k xs) e

  pub images-at : images_of xs ≡ entries image_widths r.images (drop (r.second + 2) xs)
  images-at = ap (section_of image_widths) second_at ∙ section_of-at image_widths xs r.second r.images L.images

  third_at : behind_images xs ≡ drop r.third xs
  third_at =
      ap (λ (ys : List ℕ). drop (extent image_widths ys) ys) second_at ∙ behind-at image_widths xs r.second r.images L.images
      ∙ ap (λ (k : ℕ). drop k xs) (sym L.third)

  pub channels-at : channels_of xs ≡ entries channel_widths r.channels (drop (r.third + 2) xs)
  channels-at = ap (section_of channel_widths) third_at ∙ section_of-at channel_widths xs r.third r.channels L.channels

  abbrev F : List Row
  F = entries file_widths r.files (drop 2 xs)

  abbrev I : List Row
  I = entries image_widths r.images (drop (r.second + 2) xs)

  abbrev C : List Row
  C = entries channel_widths r.channels (drop (r.third + 2) xs)

  by-places : accepts xs
      ≡ (whole widths xs && (leb r.files 1024 && each good_file F && rising 0 r.files I && same_rows C (counted_channels F)))
  unfolding accepts good_tables
  by-places = rw (files-at, images-at, channels-at, length-entries file_widths r.files (drop 2 xs))

  pub refused-many : 1024 < r.files → false ≡ accepts xs
  refused-many h = sym (by-places ∙ rw (lt-leb r.files 1024 h, and-false))

  pub refused-file : each good_file F ≡ false → false ≡ accepts xs
  refused-file h = sym (by-places ∙ rw (h, and-false, and-false))

  pub refused-image : rising 0 r.files I ≡ false → false ≡ accepts xs
  refused-image h = sym (by-places ∙ rw (h, and-false, and-false))

  pub judged : whole widths xs ≡ true → r.files ≤ 1024 → each good_file F ≡ true → rising 0 r.files I ≡ true
      → (counts : List ℕ) → counts ≡ tallied (replicate 63 0) (map channel_of F)
      → {b : Bool} → b ≡ same_rows C (channel_rows (λ (c : ℕ). get_or counts c 0) 63 0) → b ≡ accepts xs
  judged w h g i counts e q =
      q ∙ ap (λ (cs : List ℕ). same_rows C (channel_rows (λ (c : ℕ). get_or cs c 0) 63 0)) e ∙ ap (same_rows C) (counted F g)
      ∙ sym (by-places ∙ rw (w, le-leb r.files 1024 h, g, i))

-- the sections by the sizes of their entries, as the code asks for them
pub shape-granted : (xs : List ℕ) {r : Bool} → r ≡ whole_by (14 ∷ 8 ∷ 3 ∷ []) xs → not r ≡ false → whole widths xs ≡ true
shape-granted xs e h = whole_by_lem widths xs ∙ granted e h

pub shape-refused : (xs : List ℕ) {r : Bool} → r ≡ whole_by (14 ∷ 8 ∷ 3 ∷ []) xs → not r ≡ true → accepts xs ≡ false
unfolding accepts
shape-refused xs e h = rw (whole_by_lem widths xs ∙ denied e h)

-- the places, from the three counts as they are read
pub placed : (s : List ℕ) (x y z : ℕ) → x ≡ number_at s 0 2 → y ≡ number_at s (2 + x * 14) 2 → z ≡ number_at s (2 + x * 14 + (2 + y * 8)) 2
    → record { files = x; second = 2 + x * 14; images = y; third = 2 + x * 14 + (2 + y * 8); channels = z } ≡ places_of s
placed s x y z ex ey ez = rw (ez, ey, ex)

-- the places of octets that are three sections
pub lies-all : (xs : List ℕ) → whole widths xs ≡ true → Lies xs (places_of xs)
lies-all xs w =
    record {
      files = refl;
      second = refl;
      images = refl;
      third = refl;
      channels = refl;
      ends = lies-three xs w (number_at xs 0 2) (2 + number_at xs 0 2 * 14) refl refl _ _ _ refl refl refl;
    }

abbrev at_places : Option Places → Places
at_places (Some p) = p
at_places None = places_of []

abbrev is_at : Option Places → Bool
is_at (Some p) = true
is_at None = false

at-nowhere : {p : Places} → None ≡ Some p → ⊥
at-nowhere e = false≢true (ap is_at e)

pub accepts-whole : (xs : List ℕ) → accepts xs ≡ true → whole widths xs ≡ true
unfolding accepts
accepts-whole xs = and_left (whole widths xs) (good_tables (files_of xs) (images_of xs) (channels_of xs))

lies_so : (xs : List ℕ) → accepts xs ≡ true → (p : Places) → Some (places_of xs) ≡ Some p → Lies xs p
lies_so xs a p e = subst (Lies xs) (ap at_places e) (lies-all xs (accepts-whole xs a))

-- what is found
pub found-so : (xs : List ℕ) {p : Places} → accepts xs ≡ true → p ≡ places_of xs → Some p ≡ found_in xs
unfolding found_in
found-so xs a e = rw a (ap Some e)

pub found-not : (xs : List ℕ) → accepts xs ≡ false → None ≡ found_in xs
unfolding found_in
found-not xs a = rw a

-- read back
pub found-lies : {xs : List ℕ} {p : Places} → found_in xs ≡ Some p → (accepts xs ≡ true) × Lies xs p
unfolding found_in
found-lies {xs} {p} e = go (accepts xs) refl e
  where
    go : (b : Bool) → accepts xs ≡ b → (if b then Some (places_of xs) else None) ≡ Some p → (accepts xs ≡ true) × Lies xs p
    go true a q = (a, lies_so xs a p q)
    go false a q = absurd (at-nowhere q)

pub found_none : (xs : List ℕ) → found_in xs ≡ None → accepts xs ≡ false
unfolding found_in
found_none xs e = go (accepts xs) refl e
  where
    go : (b : Bool) → accepts xs ≡ b → (if b then Some (places_of xs) else None) ≡ None → accepts xs ≡ false
    go true a q = absurd (at-nowhere (sym q))
    go false a q = a
