-- What a question is answered: one law for each outcome, and where an entry of each section stands. Assumes nothing.
use Rattle.std.specs.Prelude.{Option, Some, None, Ok}
use mathlib.Core.Path.{◌≡◌, refl, sym, ap, ap₂, ◌∙◌}
use mathlib.Core.List.{List, [], ◌∷◌}
use Prim.Native.Nat.{ℕ, ◌+◌, ◌*◌, ◌<◌, ◌≤◌}
use native.Mathlib.Nat.{add-zero, add_assoc}
use native.Mathlib.Omega.{arith}
use borrow.Author.Tests.{lt-ltb, le-ltb}
use lib.ListN.{length, drop, get_or}
use Rattle.octets.specs.Number.{number_at}
use Rattle.octets.proofs.Numbers.{number_at-one, number_at-drop}
use Rattle.refusals.specs.Refusals.{refuse}
use Rattle.sections.specs.Sections.{Row, size, values, entries}
use Rattle.sections.proofs.Parts.{length-entries}
use Rattle.sections.proofs.Walks.{entry_at}
use Rattle.catalogue.specs.declared.Places.{Places}
use Rattle.catalogue.specs.Catalogue.{file_widths, image_widths, channel_widths, files_of, images_of, channels_of}
use Rattle.catalogue.specs.Reading.{found_in, Lies}
use Rattle.catalogue.specs.Asking.{catalogue_read, file_entry, image_entry, channel_entry, asked}
use Rattle.catalogue.proofs.Judging.{found-lies, found_none, files-at, images-at, channels-at}

values-drop : (ws : List ℕ) (p : ℕ) (xs : List ℕ) (at : ℕ) → values ws (drop p xs) at ≡ values ws xs (p + at)
values-drop [] p xs at = refl
values-drop (w ∷ ws) p xs at =
    ap₂ (λ (y : ℕ) (ys : Row). y ∷ ys) (number_at-drop p xs at w) (values-drop ws p xs (at + w) ∙ ap (values ws xs) (sym (add_assoc p at w)))

-- how many entries the sections have, and where entry i of each begins
module _ {xs : List ℕ} {r : Places} (L : Lies xs r) where
  pub file-count : length (files_of xs) ≡ r.files
  file-count = ap length (files-at L) ∙ length-entries file_widths r.files (drop 2 xs)

  pub image-count : length (images_of xs) ≡ r.images
  image-count = ap length (images-at L) ∙ length-entries image_widths r.images (drop (r.second + 2) xs)

  pub channel-count : length (channels_of xs) ≡ r.channels
  channel-count = ap length (channels-at L) ∙ length-entries channel_widths r.channels (drop (r.third + 2) xs)

  stands : (ws : List ℕ) (p n i : ℕ) {rs : List Row} → rs ≡ entries ws n (drop p xs) → i < n → get_or rs i [] ≡ values ws xs (p + i * size ws)
  stands ws p n i e h =
      ap (λ (ys : List Row). get_or ys i []) e ∙ entry_at ws xs p n i h ∙ values-drop ws (p + i * size ws) xs 0
      ∙ ap (values ws xs) (add-zero (p + i * size ws))

  pub file-stands : (i : ℕ) → i < r.files → get_or (files_of xs) i [] ≡ values file_widths xs (2 + i * 14)
  file-stands i h = stands file_widths 2 r.files i (files-at L) h

  pub image-stands : (i : ℕ) → i < r.images → get_or (images_of xs) i [] ≡ values image_widths xs (r.second + 2 + i * 8)
  image-stands i h = stands image_widths (r.second + 2) r.images i (images-at L) h

  pub channel-stands : (i : ℕ) → i < r.channels → get_or (channels_of xs) i [] ≡ values channel_widths xs (r.third + 2 + i * 3)
  channel-stands i h = stands channel_widths (r.third + 2) r.channels i (channels-at L) h

-- a question to what was found
module _ {A : Type 0} (refused nothing : A) (there : Row → A) (xs : List ℕ) (rows : List Row) (n : ℕ) where
  pub asked-none : {f : Option Places} → f ≡ found_in xs → f ≡ None → refused ≡ asked refused nothing there xs rows n
  asked-none e q = rw (found_none xs (sym e ∙ q))

  module _ {p : Places} {f : Option Places} (e : f ≡ found_in xs) (q : f ≡ Some p) where
    pub asked-nothing : length rows ≤ n → nothing ≡ asked refused nothing there xs rows n
    asked-nothing h = rw ((found-lies (sym e ∙ q)).0, le-ltb n (length rows) h)

    pub asked-there : n < length rows → {row : Row} {a : A} → a ≡ there row → get_or rows n [] ≡ row → a ≡ asked refused nothing there xs rows n
    asked-there h s t = s ∙ ap there (sym t) ∙ rw ((found-lies (sym e ∙ q)).0, lt-ltb n (length rows) h)

-- how many entries there are
module _ (xs : List ℕ) {f : Option Places} (e : f ≡ found_in xs) where
  pub read_none : f ≡ None → refuse 31 ≡ catalogue_read xs
  unfolding catalogue_read
  read_none q = rw (found_none xs (sym e ∙ q))

  pub read_all : {p : Places} → f ≡ Some p → Ok (record { files = p.files; images = p.images; channels = p.channels }) ≡ catalogue_read xs
  unfolding catalogue_read
  read_all {p} q =
      let h = found-lies (sym e ∙ q) in
      rw (h.0, file-count h.1, image-count h.1, channel-count h.1)

-- an entry by its octets
module _ (xs : List ℕ) (p : ℕ) where
  one : (i j : ℕ) → i ≡ j → j < length xs → number_at xs i 1 ≡ get_or xs j 0
  one i j e h = ap (λ (k : ℕ). number_at xs k 1) e ∙ number_at-one xs j h

  two : (i j w : ℕ) → i ≡ j → number_at xs i w ≡ number_at xs j w
  two i j w e = ap (λ (k : ℕ). number_at xs k w) e

  pub file-made : p + 14 ≤ length xs → {a k b : ℕ} → a ≡ number_at xs (p + 1) 2 → k ≡ number_at xs (p + 3) 2 → b ≡ number_at xs (p + 5) 8
      → record {
        facts = record { channel = record { 0 = get_or xs p 0 }; application = record { 0 = a }; counter = k; bits = b };
        kind = get_or xs (p + 13) 0;
      } ≡ file_entry (values file_widths xs p)
  file-made h ea ek eb =
      rw (
        ea,
        ek,
        eb,
        one p p refl (omega arith),
        two (p + 1 + 2) (p + 3) 2 (omega arith),
        two (p + 1 + 2 + 2) (p + 5) 8 (omega arith),
        one (p + 1 + 2 + 2 + 8) (p + 13) (omega arith) (omega arith),
      )

  pub image-made : p + 8 ≤ length xs → {i c l : ℕ} → i ≡ number_at xs p 2 → c ≡ number_at xs (p + 2) 2 → l ≡ number_at xs (p + 4) 2
      → record { index = i; picture = record { columns = c; lines = l; number = get_or xs (p + 6) 0; total = get_or xs (p + 7) 0 } }
      ≡ image_entry (values image_widths xs p)
  image-made h ei ec el =
      rw (
        ei,
        ec,
        el,
        two (p + 2 + 2) (p + 4) 2 (omega arith),
        one (p + 2 + 2 + 2) (p + 6) (omega arith) (omega arith),
        one (p + 2 + 2 + 2 + 1) (p + 7) (omega arith) (omega arith),
      )

  pub channel-made : p + 3 ≤ length xs → {n : ℕ} → n ≡ number_at xs (p + 1) 2
      → record { channel = record { 0 = get_or xs p 0 }; files = n } ≡ channel_entry (values channel_widths xs p)
  channel-made h en = rw (en, one p p refl (omega arith))
