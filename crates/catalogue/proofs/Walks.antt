-- Loops that go along the entries of a section: a turn, a refusal, the end. Assumes nothing.
use mathlib.Core.Path.{◌≡◌, refl, sym, ap, ◌∙◌}
use mathlib.Core.Bool.{Bool, true, false, ◌&&◌, and-false}
use mathlib.Core.List.{List, [], ◌∷◌}
use mathlib.Core.Logic.{◌⊎◌, ⊎_elim}
use Prim.Native.Nat.{ℕ, suc, ◌+◌, ◌*◌, ◌-◌, ◌<◌, ◌≤◌}
use native.Mathlib.Nat.{add-zero, sub-zero}
use native.Mathlib.Omega.{arith}
use borrow.Author.Tests.{eqb-true, le-leb, lt-leb, lt-ltb, le-ltb}
use lib.Dec.{leb, ltb, eqb}
use lib.ListN.{length, drop, get_or, length-drop}
use Rattle.octets.specs.Number.{number_at}
use Rattle.octets.specs.Each.{each}
use Rattle.octets.proofs.Numbers.{number_at-one, number_at-drop}
use Rattle.sections.proofs.Walks.{entries_next, entries_none, whole-next, fits-here}
use Rattle.octets.proofs.Each.{each-cons}
use Rattle.octets.proofs.Tests.{and_left, and_right}
use Rattle.sections.specs.Sections.{values, entries, whole}
use Rattle.catalogue.specs.Catalogue.{file_widths, image_widths, channel_widths, widths, good_file, rising}

-- files
pub record Filing (s : List ℕ) (at n i : ℕ) : Type 0 where
  pub room : at + n * 14 ≤ length s
  pub gives : each good_file (entries file_widths n (drop at s)) ≡ each good_file (entries file_widths (n - i) (drop (at + i * 14) s))

pub filing : (s : List ℕ) (at n : ℕ) → at + n * 14 ≤ length s → Filing s at n 0
filing s at n h = record { room = h; gives = rw (sub-zero, add-zero) }

module _ {s : List ℕ} {at n i : ℕ} (F : Filing s at n i) where
  abbrev all_files : Bool
  all_files = each good_file (entries file_widths n (drop at s))

  -- the place of file i
  abbrev file_place : ℕ
  file_place = at + i * 14

  file-turn : i < n → all_files ≡ (leb (get_or s file_place 0) 62 && leb (number_at s (file_place + 1) 2) 2015 && leb 1 (number_at s (file_place + 5) 8)
      && each good_file (entries file_widths (n - (i + 1)) (drop (file_place + 14) s)))
  file-turn h =
      let z : number_at (drop file_place s) 0 1 ≡ get_or s file_place 0
      = number_at-drop file_place s 0 1 ∙ ap (λ (k : ℕ). number_at s k 1) (add-zero file_place) ∙ number_at-one s file_place (omega (arith, F.room)) in
      F.gives ∙ ap (each good_file) (entries_next file_widths s file_place n i h)
      ∙ each-cons good_file (values file_widths (drop file_place s) 0) (entries file_widths (n - (i + 1)) (drop (file_place + 14) s))
      ∙ rw (z, number_at-drop file_place s 1 2, number_at-drop file_place s 5 8)

  pub file-good : i < n → get_or s file_place 0 ≤ 62 → number_at s (file_place + 1) 2 ≤ 2015 → 1 ≤ number_at s (file_place + 5) 8 → Filing s at n (i + 1)
  file-good h a b c =
      let next : at + (i + 1) * 14 ≡ file_place + 14 = omega arith in
      record {
        room = F.room;
        gives = rw next (file-turn h ∙ rw (le-leb (get_or s file_place 0) 62 a, le-leb (number_at s (file_place + 1) 2) 2015 b, le-leb 1 (number_at s (file_place + 5) 8) c));
      }

  pub file-bad : i < n → (62 < get_or s file_place 0) ⊎ ((2015 < number_at s (file_place + 1) 2) ⊎ (number_at s (file_place + 5) 8 < 1)) → false ≡ all_files
  file-bad h q =
      sym (file-turn h ∙ ⊎_elim (λ a. rw (lt-leb (get_or s file_place 0) 62 a))
      (⊎_elim (λ b. rw (lt-leb (number_at s (file_place + 1) 2) 2015 b, and-false)) (λ c. rw (lt-leb 1 (number_at s (file_place + 5) 8) c, and-false))) q)

  pub file-end : n ≤ i → true ≡ all_files
  unfolding each
  file-end h = sym (F.gives ∙ ap (each good_file) (entries_none file_widths s file_place n i h))

-- images
pub record Indexing (s : List ℕ) (at m n i least : ℕ) : Type 0 where
  pub room : at + m * 8 ≤ length s
  pub gives : rising 0 n (entries image_widths m (drop at s)) ≡ rising least n (entries image_widths (m - i) (drop (at + i * 8) s))

pub indexing : (s : List ℕ) (at m n : ℕ) → at + m * 8 ≤ length s → Indexing s at m n 0 0
indexing s at m n h = record { room = h; gives = rw (sub-zero, add-zero) }

module _ {s : List ℕ} {at m n i least : ℕ} (I : Indexing s at m n i least) where
  abbrev all_images : Bool
  all_images = rising 0 n (entries image_widths m (drop at s))

  -- the place of image i
  abbrev image_place : ℕ
  image_place = at + i * 8

  image-turn : i < m → all_images ≡ (leb least (number_at s image_place 2) && ltb (number_at s image_place 2) n
      && rising (suc (number_at s image_place 2)) n (entries image_widths (m - (i + 1)) (drop (image_place + 8) s)))
  unfolding rising
  image-turn h =
      let z : number_at (drop image_place s) 0 2 ≡ number_at s image_place 2 = number_at-drop image_place s 0 2 ∙ ap (λ (k : ℕ). number_at s k 2) (add-zero image_place) in
      I.gives ∙ ap (rising least n) (entries_next image_widths s image_place m i h) ∙ rw z

  pub image-good : i < m → {x : ℕ} → x ≡ number_at s image_place 2 → least ≤ x → x < n → Indexing s at m n (i + 1) (x + 1)
  image-good h {x} q a b =
      let y : x + 1 ≡ suc (number_at s image_place 2) = omega arith in
      let next : at + (i + 1) * 8 ≡ image_place + 8 = omega arith in
      record {
        room = I.room;
        gives = rw (next, y) (image-turn h ∙ rw (le-leb least (number_at s image_place 2) (omega arith), lt-ltb (number_at s image_place 2) n (omega arith)));
      }

  pub image-bad : i < m → {x : ℕ} → x ≡ number_at s image_place 2 → (x < least) ⊎ (n ≤ x) → false ≡ all_images
  image-bad h {x} q =
      ⊎_elim (λ a. sym (image-turn h ∙ rw (lt-leb least (number_at s image_place 2) (omega arith)))) (λ b. sym (image-turn h ∙ rw (le-ltb (number_at s image_place 2) n (omega arith), and-false)))

  pub image-end : m ≤ i → true ≡ all_images
  unfolding rising
  image-end h = sym (I.gives ∙ ap (rising least n) (entries_none image_widths s image_place m i h))

-- the sections by their places
module _ (s : List ℕ) where
  abbrev there : ℕ → ℕ → Bool
  there at w = leb (2 + number_at (drop at s) 0 2 * w) (length (drop at s))

  module _ (x a y b z : ℕ) (ex : x ≡ number_at s 0 2) (ea : a ≡ 2 + x * 14) (ey : y ≡ number_at s a 2) (eb : b ≡ a + (2 + y * 8)) (ez : z ≡ number_at s b 2) where
    whole-by-places : whole widths s ≡ (there 0 14 && (there a 8 && (there b 3 && eqb (length (drop (b + (2 + z * 3)) s)) 0)))
    unfolding whole
    whole-by-places =
        let one : 0 + (2 + x * 14) ≡ a = omega arith in
        whole-next file_widths (image_widths ∷ channel_widths ∷ []) s 0 x ex
        ∙ ap (λ (k : ℕ). there 0 14 && whole (image_widths ∷ channel_widths ∷ []) (drop k s)) one
        ∙ ap (λ (t : Bool). there 0 14 && t)
        (whole-next image_widths (channel_widths ∷ []) s a y ey ∙ ap (λ (k : ℕ). there a 8 && whole (channel_widths ∷ []) (drop k s)) (sym eb)
        ∙ ap (λ (t : Bool). there a 8 && t) (whole-next channel_widths [] s b z ez))

  -- the sections of octets that are three sections end within them, the last one at their end
  module _ (w : whole widths s ≡ true) (x a : ℕ) (ex : x ≡ number_at s 0 2) (ea : a ≡ 2 + x * 14) where
    abbrev b₀ : ℕ
    b₀ = a + (2 + number_at s a 2 * 8)

    tests : (there 0 14 && (there a 8 && (there b₀ 3 && eqb (length (drop (b₀ + (2 + number_at s b₀ 2 * 3)) s)) 0))) ≡ true
    tests = sym (whole-by-places x a (number_at s a 2) b₀ (number_at s b₀ 2) ex ea refl refl refl) ∙ w

    tests-two : (there a 8 && (there b₀ 3 && eqb (length (drop (b₀ + (2 + number_at s b₀ 2 * 3)) s)) 0)) ≡ true
    tests-two = and_right (there 0 14) (there a 8 && (there b₀ 3 && eqb (length (drop (b₀ + (2 + number_at s b₀ 2 * 3)) s)) 0)) tests

    tests-three : (there b₀ 3 && eqb (length (drop (b₀ + (2 + number_at s b₀ 2 * 3)) s)) 0) ≡ true
    tests-three = and_right (there a 8) (there b₀ 3 && eqb (length (drop (b₀ + (2 + number_at s b₀ 2 * 3)) s)) 0) tests-two

    pub lies-one : a ≤ length s
    lies-one =
        omega (
          arith,
          fits-here s 0 14 refl (and_left (there 0 14) (there a 8 && (there b₀ 3 && eqb (length (drop (b₀ + (2 + number_at s b₀ 2 * 3)) s)) 0)) tests)
              (omega arith) x ex,
        )

    pub lies-two : (y b : ℕ) → y ≡ number_at s a 2 → b ≡ a + (2 + y * 8) → b ≤ length s
    lies-two y b ey eb =
        omega (arith, fits-here s a 8 refl (and_left (there a 8) (there b₀ 3 && eqb (length (drop (b₀ + (2 + number_at s b₀ 2 * 3)) s)) 0) tests-two) lies-one y ey)

    pub lies-three : (y b z : ℕ) → y ≡ number_at s a 2 → b ≡ a + (2 + y * 8) → z ≡ number_at s b 2 → b + (2 + z * 3) ≡ length s
    lies-three y b z ey eb ez =
        let q : b₀ ≡ b = omega arith in
        let l = fits-here s b 3 {r = there b 3} refl (rw q at (and_left (there b₀ 3) (eqb (length (drop (b₀ + (2 + number_at s b₀ 2 * 3)) s)) 0) tests-three)) (lies-two y b ey eb) z ez in
        let e : eqb (length (drop (b + (2 + z * 3)) s)) 0 ≡ true
        = rw (q, ← ez) at (and_right (there b₀ 3) (eqb (length (drop (b₀ + (2 + number_at s b₀ 2 * 3)) s)) 0) tests-three) in
        omega (arith, eqb-true (length (drop (b + (2 + z * 3)) s)) 0 e, length-drop (b + (2 + z * 3)) s)
