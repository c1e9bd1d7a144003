-- One entry more in place: the sections from the last to the first. Assumes nothing.
use mathlib.Core.Path.{◌≡◌, refl, sym, ap, ◌∙◌}
use mathlib.Core.List.{List, [], ◌∷◌, ◌++◌, append-nil}
use Prim.Native.Nat.{ℕ, ◌+◌, ◌*◌, ◌<◌, ◌≤◌}
use native.Mathlib.Omega.{arith}
use lib.ListN.{length, take, get_or}
use Rattle.octets.specs.Number.{Octets, part, in_octets}
use Rattle.octets.specs.Buffer.{put}
use Rattle.sections.specs.Sections.{Row, row, rows, section, sections}
use Rattle.sections.proofs.Growing.{in-front}
use Rattle.catalogue.specs.declared.Places.{Places}
use Rattle.catalogue.specs.declared.Entry.{Entry}
use Rattle.catalogue.specs.Catalogue.{file_widths, file_row, image_widths, image_row, channel_widths, channel_rows, widths, files_of, images_of}
use Rattle.catalogue.specs.Reading.{Ready}
use Rattle.catalogue.specs.Entering.{entered}
use Rattle.catalogue.proofs.Lengths.{file-fourteen}
use Rattle.grow.proofs.Writing.{one-row, length-image, count-image}
use Rattle.grow.proofs.Entering.{octets-xs, ready-sizes, ready-few, ready-length, n-files, n-images, stand-files, stand-images, counts-now, entered-sections}

-- on any sections that stand in their places
module _ (F I cs : List Row) (e : Entry) (b : List ℕ) (S T n m more : ℕ)
    (nf : length F ≡ n) (mi : length I ≡ m) (lm : more ≡ length (image_row 0 e.image)) (lS : S ≡ 2 + n * 14) (lT : T ≡ S + (2 + m * 8))
    (fs : part 2 (n * 14) b ≡ rows file_widths F) (is : part (S + 2) (m * 8) b ≡ rows image_widths I)
    (within : T ≤ length b) where
  abbrev shows : List Row
  shows = image_row n e.image

  abbrev Y : List ℕ
  Y = section channel_widths cs ++ []

  by-sections : {b₁ b₂ b₃ : List ℕ} → b₁ ≡ put b (T + 14 + more * 8) (section channel_widths cs)
      → b₂ ≡ put b₁ (S + 14) (in_octets 2 (m + more) ++ part (S + 2) (m * 8) b₁ ++ rows image_widths shows)
      → b₃ ≡ put b₂ 0 (in_octets 2 (n + 1) ++ part 2 (n * 14) b₂ ++ row file_widths (file_row e))
      → b₃ ≡ put b 0 (sections widths ((F ++ (file_row e ∷ [])) ∷ (I ++ shows) ∷ cs ∷ []))
  unfolding sections
  by-sections {b₁} {b₂} {b₃} q₁ q₂ q₃ =
      let lp = length-image n e.image in
      let lr = file-fourteen e in
      let one : b₁ ≡ put b (T + 14 + more * 8) Y = q₁ ∙ ap (put b (T + 14 + more * 8)) (sym (append-nil (section channel_widths cs))) in
      let two : b₂ ≡ put b (S + 14) (section image_widths (I ++ shows) ++ Y)
      = in-front image_widths b Y S 14 (T + 14 + more * 8) m more I shows (rows image_widths shows) is refl mi (count-image n e.image ∙ sym lm)
      (omega arith) (omega arith) (omega arith) one q₂ in
      in-front file_widths b (section image_widths (I ++ shows) ++ Y) 0 0 (S + 14) n 1 F (file_row e ∷ []) (row file_widths (file_row e)) fs
      (sym (one-row file_widths (file_row e))) nf refl (omega arith) (omega arith) (omega arith) two q₃

-- the numbers that the stores of `append` ask for
pub record Room (b : List ℕ) (at : Places) (e : Entry) (counts : List ℕ) : Type 0 where
  pub few : at.files < 1024
  pub fits : at.images ≤ 65535
  pub second : at.second ≡ 2 + at.files * 14
  pub third : at.third ≡ at.second + (2 + at.images * 8)
  pub ends : at.third + 16 + length (image_row 0 e.image) * 8 + length (rows channel_widths (channel_rows (λ (c : ℕ). get_or counts c 0) 63 0)) ≤ length b

-- what `append` asks, and what it gives
module _ {b : List ℕ} {used : ℕ} {at : Places} {e : Entry} {counts : List ℕ} (R : Ready b used at e counts) (o : Octets b) where
  abbrev marks : List Row
  marks = channel_rows (λ (c : ℕ). get_or counts c 0) 63 0

  pub ready-room : length (entered (take used b) e) ≤ length b → Room b at e counts
  ready-room room =
      let l = ready-sizes R o in
      let k = ready-few R o in
      record { few = k.0; fits = k.1; second = l.0; third = l.1; ends = omega (arith, ready-length R o, room) }

  pub ready-by-sections : {b₁ b₂ b₃ : List ℕ} (more : ℕ) → more ≡ length (image_row 0 e.image)
      → b₁ ≡ put b (at.third + 14 + more * 8) (section channel_widths marks)
      → b₂ ≡ put b₁ (at.second + 14)
      (in_octets 2 (at.images + more) ++ part (at.second + 2) (at.images * 8) b₁ ++ rows image_widths (image_row at.files e.image))
      → b₃ ≡ put b₂ 0 (in_octets 2 (at.files + 1) ++ part 2 (at.files * 14) b₂ ++ row file_widths (file_row e))
      → b₃ ≡ put b 0 (entered (take used b) e)
  ready-by-sections more em q₁ q₂ q₃ =
      let l = ready-sizes R o in
      let xs = take used b in
      by-sections (files_of xs) (images_of xs) marks e b at.second at.third at.files at.images more (n-files R o) (n-images R o) em l.0 l.1
      (stand-files R o) (stand-images R o) l.2 q₁ q₂ q₃
      ∙ ap (λ (cs : List Row). put b 0 (sections widths ((files_of xs ++ (file_row e ∷ [])) ∷ (images_of xs ++ image_row at.files e.image) ∷ cs ∷ [])))
      (counts-now R o)
      ∙ ap (put b 0) (sym (entered-sections xs (octets-xs R o) R.catalogue e at.files (n-files R o)))
