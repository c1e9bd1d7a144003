-- The counts of the channels: one pass over the files, one over the channels. Assumes nothing.
use mathlib.Core.Path.{◌≡◌, refl, sym, ap, ap₂, ◌∙◌}
use mathlib.Core.Bool.{Bool, true, false, ◌&&◌, and-false}
use mathlib.Core.List.{List, [], ◌∷◌, map}
use mathlib.Core.Logic.{◌⊎◌, ⊎_elim}
use Prim.Native.Nat.{ℕ, zero, suc, ◌+◌, ◌*◌, ◌-◌, ◌<◌, ◌≤◌}
use native.Mathlib.Nat.{add-zero, sub-zero}
use native.Mathlib.Numerals.{add-one}
use native.Mathlib.Decide.{ℕ_discrete}
use native.Mathlib.Omega.{arith}
use borrow.Author.Tests.{leb-true, eq-eqb, ne_eqb}
use lib.Dec.{leb, eqb}
use lib.ListN.{length, drop, get_or, set, replicate, length-set, get_or-replicate}
use lib.Seq.{get_or-set_same, get_or-set_other}
use Rattle.octets.specs.Number.{number_at}
use Rattle.octets.specs.Each.{each}
use Rattle.octets.proofs.Numbers.{number_at-one}
use Rattle.octets.proofs.Each.{each-cons}
use Rattle.octets.proofs.Tests.{and_left, and_right}
use Rattle.sections.specs.Sections.{Row, values, entries}
use Rattle.catalogue.specs.Catalogue.{file_widths, channel_widths, good_file, same_row, same_rows, channel_rows, channel_of, how_many, counted_channels}
use Rattle.catalogue.specs.Reading.{tallied}
use Rattle.octets.proofs.Numbers.{number_at-drop}
use Rattle.sections.proofs.Walks.{entries_next, entries_none}

pub low-channel : (r : Row) → good_file r ≡ true → channel_of r < 63
low-channel r h =
    let a = leb (get_or r 0 0) 62 in
    let b = leb (get_or r 1 0) 2015 in
    let l = leb-true (get_or r 0 0) 62 (and_left a b (and_left (a && b) (leb 1 (get_or r 3 0)) h)) in
    omega arith

-- a pass over the files counts what there is
pub tallied-counts : (cs : List ℕ) (rs : List Row) (c : ℕ) → length cs ≡ 63 → each good_file rs ≡ true
    → get_or (tallied cs (map channel_of rs)) c 0 ≡ get_or cs c 0 + how_many c (map channel_of rs)
unfolding tallied how_many each
tallied-counts cs [] c l g = omega arith
tallied-counts cs (r ∷ rs) c l g =
    let x = channel_of r in
    let low = low-channel r (and_left (good_file r) (each good_file rs) g) in
    let ds = set cs x (get_or cs x 0 + 1) in
    let e = tallied-counts ds rs c (length-set cs x (get_or cs x 0 + 1) ∙ l) (and_right (good_file r) (each good_file rs) g) in
    elim (ℕ_discrete c x) [
      | yes q ↦
          let s : get_or ds c 0 ≡ get_or cs c 0 + 1 = rw q (get_or-set_same cs x (get_or cs x 0 + 1) 0 (omega arith)) in
          rw (eq-eqb c x q) (e ∙ omega arith)
      | no n ↦
          let s : get_or ds c 0 ≡ get_or cs c 0 = get_or-set_other cs x c (get_or cs x 0 + 1) 0 n in
          rw (ne_eqb c x n) (e ∙ omega arith)
    ]

pub channels-same : (f g : ℕ → ℕ) (k c : ℕ) → ((x : ℕ) → x < c + k → f x ≡ g x) → channel_rows f k c ≡ channel_rows g k c
unfolding channel_rows
channels-same f g zero c h = refl
channels-same f g (suc k) c h =
    rw (h c (omega arith), channels-same f g k (suc c) (λ x l. h x (omega arith)))

pub counted : (rs : List Row) → each good_file rs ≡ true
    → channel_rows (λ (c : ℕ). get_or (tallied (replicate 63 0) (map channel_of rs)) c 0) 63 0 ≡ counted_channels rs
counted rs g = channels-same _ _ 63 0 each-one
  where
    each-one : (x : ℕ) → x < 0 + 63 → get_or (tallied (replicate 63 0) (map channel_of rs)) x 0 ≡ how_many x (map channel_of rs)
    each-one x l = tallied-counts (replicate 63 0) rs x refl g ∙ ap (λ (k : ℕ). k + how_many x (map channel_of rs)) (get_or-replicate 63 x 0 0 l) ∙ omega arith

-- the loop over the files
pub record Tallying (s : List ℕ) (at n : ℕ) (counts : List ℕ) (i : ℕ) : Type 0 where
  pub room : at + n * 14 ≤ length s
  pub few : n ≤ 1024
  pub long : length counts ≡ 63
  pub good : each good_file (entries file_widths (n - i) (drop (at + i * 14) s)) ≡ true
  pub small : (c : ℕ) → get_or counts c 0 ≤ i
  pub gives : tallied (replicate 63 0) (map channel_of (entries file_widths n (drop at s)))
      ≡ tallied counts (map channel_of (entries file_widths (n - i) (drop (at + i * 14) s)))

pub zeros : (n c : ℕ) → get_or (replicate n 0) c 0 ≤ 0
zeros zero c = omega arith
zeros (suc n) zero = omega arith
zeros (suc n) (suc c) = zeros n c

pub tallying : (s : List ℕ) (at n : ℕ) → at + n * 14 ≤ length s → n ≤ 1024 → each good_file (entries file_widths n (drop at s)) ≡ true
    → Tallying s at n (replicate 63 0) 0
tallying s at n h f g =
    record {
      room = h;
      few = f;
      long = refl;
      good = rw (sub-zero, add-zero) g;
      small = zeros 63;
      gives = rw (sub-zero, add-zero);
    }

module _ {s : List ℕ} {at n : ℕ} {counts : List ℕ} {i : ℕ} (T : Tallying s at n counts i) where
  -- the place of file i
  abbrev file_place : ℕ
  file_place = at + i * 14

  abbrev left : List Row
  left = entries file_widths (n - (i + 1)) (drop (file_place + 14) s)

  abbrev this : Row
  this = values file_widths (drop file_place s) 0

  this-channel : i < n → channel_of this ≡ get_or s file_place 0
  this-channel h = number_at-drop file_place s 0 1 ∙ ap (λ (k : ℕ). number_at s k 1) (add-zero file_place) ∙ number_at-one s file_place (omega (arith, T.room))

  both-good : i < n → (good_file this && each good_file left) ≡ true
  both-good h = sym (ap (each good_file) (entries_next file_widths s file_place n i h) ∙ each-cons good_file this left) ∙ T.good

  pub tally-low : i < n → get_or s file_place 0 < 63
  tally-low h = omega (arith, this-channel h, low-channel this (and_left (good_file this) (each good_file left) (both-good h)))

  pub tally-more : i < n → Tallying s at n (set counts (get_or s file_place 0) (get_or counts (get_or s file_place 0) 0 + 1)) (i + 1)
  unfolding tallied
  tally-more h =
      let x = get_or s file_place 0 in
      let v = get_or counts x 0 + 1 in
      let next : at + (i + 1) * 14 ≡ file_place + 14 = omega arith in
      record {
        room = T.room;
        few = T.few;
        long = length-set counts x v ∙ T.long;
        good = rw next (and_right (good_file this) (each good_file left) (both-good h));
        small = λ c.
            elim (ℕ_discrete c x) [
              | yes q ↦ rw q (omega (arith, get_or-set_same counts x v 0 (omega (arith, T.long, tally-low h)), T.small x))
              | no m ↦ omega (arith, get_or-set_other counts x c v 0 m, T.small c)
            ];
        gives = rw next (T.gives ∙ ap (λ (rs : List Row). tallied counts (map channel_of rs)) (entries_next file_widths s file_place n i h) ∙ rw (this-channel h));
      }

  pub tally-end : n ≤ i → counts ≡ tallied (replicate 63 0) (map channel_of (entries file_widths n (drop at s)))
  unfolding tallied
  tally-end h = sym (T.gives ∙ ap (λ (rs : List Row). tallied counts (map channel_of rs)) (entries_none file_widths s file_place n i h))

-- the channels from c on: without files, with files, none left
module _ (f : ℕ → ℕ) (N c : ℕ) where
  pub rows-skip : c < N → f c ≡ 0 → channel_rows f (N - c) c ≡ channel_rows f (N - (c + 1)) (c + 1)
  unfolding channel_rows
  rows-skip h e =
      let m : N - c ≡ suc (N - (c + 1)) = omega arith in
      rw (m, eq-eqb (f c) 0 e, add-one c)

  pub rows_next : c < N → (f c ≡ 0 → ⊥) → channel_rows f (N - c) c ≡ (c ∷ f c ∷ []) ∷ channel_rows f (N - (c + 1)) (c + 1)
  unfolding channel_rows
  rows_next h e =
      let m : N - c ≡ suc (N - (c + 1)) = omega arith in
      rw (m, ne_eqb (f c) 0 e, add-one c)

  pub rows_none : N ≤ c → channel_rows f (N - c) c ≡ []
  unfolding channel_rows
  rows_none h =
      let m : N - c ≡ 0 = omega arith in
      rw m

-- the loop over the channels
pub record Comparing (N : ℕ) (s : List ℕ) (at k : ℕ) (counts : List ℕ) (c j : ℕ) : Type 0 where
  pub room : at + k * 3 ≤ length s
  pub within : j ≤ k
  pub gives : same_rows (entries channel_widths k (drop at s)) (channel_rows (λ (x : ℕ). get_or counts x 0) N 0)
      ≡ same_rows (entries channel_widths (k - j) (drop (at + j * 3) s)) (channel_rows (λ (x : ℕ). get_or counts x 0) (N - c) c)

pub comparing : (N : ℕ) (s : List ℕ) (at k : ℕ) (counts : List ℕ) → at + k * 3 ≤ length s → Comparing N s at k counts 0 0
comparing N s at k counts h = record { room = h; within = omega arith; gives = simp (sub-zero, add-zero) }

module _ {N : ℕ} {s : List ℕ} {at k : ℕ} {counts : List ℕ} {c j : ℕ} (C : Comparing N s at k counts c j) where
  -- the place of entry j
  abbrev entry_place : ℕ
  entry_place = at + j * 3

  abbrev count : ℕ → ℕ
  count x = get_or counts x 0

  abbrev goal : Bool
  goal = same_rows (entries channel_widths k (drop at s)) (channel_rows (λ (x : ℕ). get_or counts x 0) N 0)

  pub compare-skip : c < N → get_or counts c 0 ≡ 0 → Comparing N s at k counts (c + 1) j
  compare-skip h e =
      record {
        room = C.room;
        within = C.within;
        gives = C.gives ∙ ap (same_rows (entries channel_widths (k - j) (drop entry_place s))) (rows-skip count N c h e);
      }

  pub compare-short : c < N → (get_or counts c 0 ≡ 0 → ⊥) → j ≡ k → false ≡ goal
  unfolding same_rows
  compare-short h e q =
      sym (C.gives ∙ ap₂ same_rows (entries_none channel_widths s entry_place k j (omega arith)) (rows_next count N c h e))

  compare-turn : c < N → (get_or counts c 0 ≡ 0 → ⊥) → j < k → goal ≡ (eqb (get_or s entry_place 0) c && (eqb (number_at s (entry_place + 1) 2) (get_or counts c 0) && true)
      && same_rows (entries channel_widths (k - (j + 1)) (drop (entry_place + 3) s)) (channel_rows count (N - (c + 1)) (c + 1)))
  unfolding same_rows same_row
  compare-turn h e l =
      let z : number_at (drop entry_place s) 0 1 ≡ get_or s entry_place 0
      = number_at-drop entry_place s 0 1 ∙ ap (λ (i : ℕ). number_at s i 1) (add-zero entry_place) ∙ number_at-one s entry_place (omega (arith, C.room)) in
      C.gives ∙ ap₂ same_rows (entries_next channel_widths s entry_place k j l) (rows_next count N c h e) ∙ rw (z, number_at-drop entry_place s 1 2)

  pub compare-other : c < N → (get_or counts c 0 ≡ 0 → ⊥) → j < k → (get_or s entry_place 0 ≡ c → ⊥) ⊎ (number_at s (entry_place + 1) 2 ≡ get_or counts c 0 → ⊥) → false ≡ goal
  compare-other h e l =
      ⊎_elim (λ q. sym (compare-turn h e l ∙ rw (ne_eqb (get_or s entry_place 0) c q)))
      (λ q. sym (compare-turn h e l ∙ rw (ne_eqb (number_at s (entry_place + 1) 2) (get_or counts c 0) q, and-false)))

  pub compare-more : c < N → (get_or counts c 0 ≡ 0 → ⊥) → j < k → get_or s entry_place 0 ≡ c → number_at s (entry_place + 1) 2 ≡ get_or counts c 0
      → Comparing N s at k counts (c + 1) (j + 1)
  compare-more h e l q r =
      let next : at + (j + 1) * 3 ≡ entry_place + 3 = omega arith in
      record {
        room = C.room;
        within = omega arith;
        gives = rw next (compare-turn h e l ∙ rw (eq-eqb (get_or s entry_place 0) c q, eq-eqb (number_at s (entry_place + 1) 2) (get_or counts c 0) r));
      }

  pub compare-end : N ≤ c → eqb j k ≡ goal
  unfolding same_rows
  compare-end h =
      elim (ℕ_discrete j k) [
        | yes q ↦ eq-eqb j k q ∙ sym (C.gives ∙ ap₂ same_rows (entries_none channel_widths s entry_place k j (omega arith)) (rows_none count N c h))
        | no n ↦ ne_eqb j k n ∙ sym (C.gives ∙ ap₂ same_rows (entries_next channel_widths s entry_place k j (omega (arith, C.within))) (rows_none count N c h))
      ]
