-- The searches: which slot is free, which file is of a pair, the sum of the needs, the block at a place; and the loops for them. Assumes nothing.
use Rattle.std.specs.Prelude.{if◌then◌else◌, cond, Option, None, Some, position}
use Rattle.std.specs.List.{position_from}
use Rattle.std.proofs.lemmas.Iterator.Adapters.{position_from-zero}
use mathlib.Core.Path.{◌≡◌, refl, sym, ap, subst, ◌∙◌}
use mathlib.Core.Bool.{Bool, true, false, not, ◌&&◌, true≢false}
use mathlib.Core.List.{List, [], ◌∷◌}
use Prim.Native.Nat.{ℕ, zero, suc, ◌+◌, ◌-◌, ◌*◌, ◌^◌, ◌≤◌, ◌<◌}
use native.Mathlib.Nat.{sub-zero, zero-add, add-zero, le_refl}
use native.Mathlib.Numerals.{add-one}
use native.Mathlib.Omega.{arith}
use borrow.Author.Tests.{eqb-true, eq-eqb, not-true, not-false}
use lib.Dec.{eqb}
use lib.ListN.{length, get_or, set, take, drop, drop_of_length-le}
use lib.Seq.{drop-cons}
use Rattle.octets.proofs.Below.{below_none, below-cons}
use Rattle.octets.proofs.Lists.{if-true, if-false, if-cases}
use Rattle.octets.proofs.Tests.{and_left, and_right, and_both}
use Rattle.frame.specs.declared.Channel.{Channel}
use Rattle.packet.specs.declared.Application.{Application}
use Rattle.state.specs.declared.Slot.{Slot}
use Rattle.state.specs.declared.Station.{Station}
use Rattle.state.specs.Slots.{no_file, slot_at, held, need_of, incomplete, of_pair}
use Rattle.state.specs.Blocks.{numbers_of, needs}
use Rattle.state.specs.Sound.{Sized, Sound}
use Rattle.room.specs.Find.{free_from, free_slot, file_from, file_of}
use Rattle.room.proofs.Given.{ahead, ahead_none, ahead-here, ahead_past}

-- the number, counted from k, of the first slot that passes a test: both searches are this one
unfoldable pub first_from : (Slot → Bool) → ℕ → List Slot → Option ℕ
first_from f k [] = None
first_from f k (x ∷ xs) = if f x then Some k else first_from f (suc k) xs

abbrev pub free : Slot → Bool
free x = not (held x)

abbrev pub sought : Channel → Application → Slot → Bool
sought c a x = of_pair c a x && incomplete x

pub free-first : (k : ℕ) (xs : List Slot) → free_from k xs ≡ first_from free k xs
unfolding free_from first_from
free-first k [] = refl
free-first k (x ∷ xs) = rw (free-first (suc k) xs) (swap (held x))
  where
    swap : (b : Bool) → (if b then first_from free (suc k) xs else Some k) ≡ (if not b then Some k else first_from free (suc k) xs)
    swap true = refl
    swap false = refl

pub file-first : (c : Channel) (a : Application) (k : ℕ) (xs : List Slot) → file_from k c a xs ≡ first_from (sought c a) k xs
unfolding file_from first_from
file-first c a k [] = refl
file-first c a k (x ∷ xs) = rw (file-first c a (suc k) xs)

-- what the answer of a search tells
pub record First (f : Slot → Bool) (xs : List Slot) (k : ℕ) : Type 0 where
  pub low : k < length xs
  pub here : f (get_or xs k no_file) ≡ true
  pub before : (j : ℕ) → j < k → f (get_or xs j no_file) ≡ false

abbrev pub FindTells : (Slot → Bool) → ℕ → List Slot → Option ℕ → Type 0
FindTells f i xs (Some k) = (i ≤ k) × First f xs (k - i)
FindTells f i xs None = (j : ℕ) → j < length xs → f (get_or xs j no_file) ≡ false

module _ (f : Slot → Bool) where
  tells-here : (i : ℕ) (x : Slot) (xs : List Slot) → f x ≡ true → FindTells f i (x ∷ xs) (Some i)
  tells-here i x xs e =
      let z : i - i ≡ 0 = omega arith in
      (le_refl i, rw z (record { low = omega arith; here = e; before = below_none (λ (j : ℕ). f (get_or (x ∷ xs) j no_file) ≡ false) }))

  tells-later : (i : ℕ) (x : Slot) (xs : List Slot) (r : Option ℕ) → f x ≡ false → FindTells f (suc i) xs r → FindTells f i (x ∷ xs) r
  tells-later i x xs (Some k) e (h, t) =
      let z : k - i ≡ suc (k - suc i) = omega arith in
      let later : First f (x ∷ xs) (suc (k - suc i)) =
      record {
        low = omega (arith, t.low);
        here = t.here;
        before = below-cons (λ (j : ℕ). f (get_or (x ∷ xs) j no_file) ≡ false) e t.before;
      } in
      (omega arith, rw z later)
  tells-later i x xs None e t = below-cons (λ (j : ℕ). f (get_or (x ∷ xs) j no_file) ≡ false) e t

  tells : (i : ℕ) (xs : List Slot) → FindTells f i xs (first_from f i xs)
  unfolding first_from
  tells i [] = below_none (λ (j : ℕ). f no_file ≡ false)
  tells i (x ∷ xs) =
      if-cases (FindTells f i (x ∷ xs)) (f x) (λ e. tells-here i x xs e) (λ e. tells-later i x xs (first_from f (suc i) xs) e (tells (suc i) xs))

  first-at : (xs : List Slot) (k : ℕ) → first_from f 0 xs ≡ Some k → First f xs k
  first-at xs k e = subst (First f xs) (sub-zero k) (subst (FindTells f 0 xs) e (tells 0 xs)).1

  first-nothing : (xs : List Slot) → first_from f 0 xs ≡ None → (j : ℕ) → j < length xs → f (get_or xs j no_file) ≡ false
  first-nothing xs e = subst (FindTells f 0 xs) e (tells 0 xs)

-- "the lowest free slot"
pub record FreeAt (s : Station) (k : ℕ) : Type 0 where
  pub low : k < length s.slots
  pub free : held (slot_at s k) ≡ false
  pub before : (j : ℕ) → j < k → held (slot_at s j) ≡ true

module _ (s : Station) where
  pub free-at : (k : ℕ) → free_slot s ≡ Some k → FreeAt s k
  unfolding free_slot
  free-at k e =
      let h = first-at free s.slots k (sym (free-first 0 s.slots) ∙ e) in
      record { low = h.low; free = not-true (held (slot_at s k)) h.here; before = λ j l. not-false (held (slot_at s j)) (h.before j l) }

  pub free-nowhere : free_slot s ≡ None → (k : ℕ) → k < length s.slots → held (slot_at s k) ≡ true
  unfolding free_slot
  free-nowhere e k h =
      not-false (held (slot_at s k)) (first-nothing free s.slots (sym (free-first 0 s.slots) ∙ e) k h)

-- "an incomplete file of the pair"
pub record FileAt (s : Station) (c : Channel) (a : Application) (k : ℕ) : Type 0 where
  pub low : k < length s.slots
  pub pair : of_pair c a (slot_at s k) ≡ true
  pub incomplete : incomplete (slot_at s k) ≡ true

pub same-pair : (c : Channel) (a : Application) (x : Slot) → of_pair c a x ≡ true → (x.channel.0 ≡ c.0) × (x.application.0 ≡ a.0)
unfolding of_pair
same-pair c a x e =
    let p = eqb x.channel.0 c.0 in
    let q = eqb x.application.0 a.0 in
    (eqb-true x.channel.0 c.0 (and_left p q e), eqb-true x.application.0 a.0 (and_right p q e))

pub pair_same : (c : Channel) (a : Application) (x : Slot) → x.channel.0 ≡ c.0 → x.application.0 ≡ a.0 → of_pair c a x ≡ true
unfolding of_pair
pair_same c a x p q = and_both (eq-eqb x.channel.0 c.0 p) (eq-eqb x.application.0 a.0 q)

module _ (s : Station) (c : Channel) (a : Application) where
  pub file-at : (k : ℕ) → file_of s c a ≡ Some k → FileAt s c a k
  unfolding file_of
  file-at k e =
      let x = slot_at s k in
      let h = first-at (sought c a) s.slots k (sym (file-first c a 0 s.slots) ∙ e) in
      record { low = h.low; pair = and_left (of_pair c a x) (incomplete x) h.here; incomplete = and_right (of_pair c a x) (incomplete x) h.here }

  pub file-nowhere : file_of s c a ≡ None → (k : ℕ) → k < length s.slots → incomplete (slot_at s k) ≡ true → of_pair c a (slot_at s k) ≡ true → ⊥
  unfolding file_of
  file-nowhere e k h i p =
      true≢false (sym (and_both p i) ∙ first-nothing (sought c a) s.slots (sym (file-first c a 0 s.slots) ∙ e) k h)

  -- a sound state has at most one, so the search finds it
  pub file-only : Sized s → Sound s → (k : ℕ) → k < 32 → incomplete (slot_at s k) ≡ true → of_pair c a (slot_at s k) ≡ true → file_of s c a ≡ Some k
  file-only z h k low i p = go (file_of s c a) refl
    where
      go : (r : Option ℕ) → file_of s c a ≡ r → file_of s c a ≡ Some k
      go (Some j) e =
          let l = z.slots in
          let f = file-at j e in
          let u = same-pair c a (slot_at s j) f.pair in
          let v = same-pair c a (slot_at s k) p in
          e ∙ ap Some (h.alone j k (omega arith) low f.incomplete i (u.0 ∙ sym v.0) (u.1 ∙ sym v.1))
      go None e =
          let l = z.slots in
          absurd (file-nowhere e k (omega arith) i p)

-- a slot that a search finds is one of them
pub file-low : (c : Channel) (a : Application) (xs : List Slot) {k : ℕ} → file_from 0 c a xs ≡ Some k → k < length xs
file-low c a xs {k} e = (first-at (sought c a) xs k (sym (file-first c a 0 xs) ∙ e)).low

-- a slot that becomes free needs nothing
pub needs-lower : (xs : List Slot) (k : ℕ) → needs (set xs k no_file) ≤ needs xs
unfolding needs held
needs-lower [] k = omega arith
needs-lower (x ∷ xs) zero = omega arith
needs-lower (x ∷ xs) (suc k) = omega (arith, needs-lower xs k)

first-position : (f : Slot → Bool) (k : ℕ) (xs : List Slot) → position_from f k xs ≡ first_from f k xs
unfolding first_from
first-position f k [] = refl
first-position f k (x ∷ xs) =
    elim (f x) as (λ b. cond b (Some k) (position_from f (k + 1) xs) ≡ (if b then Some k else first_from f (suc k) xs))
    [ true ↦ refl | false ↦ rw add-one (first-position f (suc k) xs) ]

pub found_first : (f : Slot → Bool) (xs : List Slot) {r : Option ℕ} → r ≡ position f xs → r ≡ first_from f 0 xs
found_first f xs e = e ∙ position_from-zero f xs ∙ first-position f 0 xs

-- the loop that sums the needs, each below 2^49 as a length is below 2^64
pub record Summing (xs : List Slot) (sum k : ℕ) : Type 0 where
  pub within : k ≤ 32
  pub long : length xs ≡ 32
  pub small : sum ≤ 2 ^ 49 * k
  pub gives : needs xs ≡ sum + needs (drop k xs)

pub summing-first : (xs : List Slot) → length xs ≡ 32 → Summing xs 0 0
summing-first xs l = record { within = omega arith; long = l; small = omega arith; gives = sym (zero-add (needs xs)) }

module _ {xs : List Slot} {sum k : ℕ} (m : Summing xs sum k) where
  module _ (low : k < 32) where
    summing_on : (n : ℕ) → n ≡ (if held (get_or xs k no_file) then need_of (get_or xs k no_file) else 0) → n < 2 ^ 49 → Summing xs (sum + n) (k + 1)
    unfolding needs
    summing_on n q h =
        let l = m.long in
        record {
          within = omega arith;
          long = l;
          small = omega (arith, m.small);
          gives = m.gives ∙ rw (drop-cons xs k no_file (omega arith), add-one, ← q) (omega arith);
        }

    pub summing-held : {n : ℕ} → held (get_or xs k no_file) ≡ true → n ≡ need_of (get_or xs k no_file) → n < 2 ^ 49 → Summing xs (sum + n) (k + 1)
    summing-held {n} e q h = summing_on n (q ∙ sym (if-true (need_of (get_or xs k no_file)) 0 e)) h

    pub summing-free : held (get_or xs k no_file) ≡ false → Summing xs sum (k + 1)
    summing-free e = rw add-zero at (summing_on 0 (sym (if-false (need_of (get_or xs k no_file)) 0 e)) (omega arith))

  pub summing-all : 32 ≤ k → sum ≡ needs xs
  unfolding needs
  summing-all h =
      let l = m.long in
      let past : length xs ≤ k = omega arith in
      sym (m.gives ∙ rw (drop_of_length-le xs past, add-zero))

-- the loop that finds the block at a place: block b is next, and `still` blocks of the owner are to be passed
pub record Reaching (n o place : ℕ) (t : List ℕ) (still b : ℕ) : Type 0 where
  pub within : b ≤ n
  pub fits : n ≤ length t
  pub gives : get_or (numbers_of o 0 (take n t)) place 0 ≡ get_or (ahead o b n t) still 0

pub reaching-first : (n o place : ℕ) (t : List ℕ) → n ≤ length t → Reaching n o place t place 0
reaching-first n o place t h = record { within = omega arith; fits = h; gives = rw sub-zero }

module _ {n o place : ℕ} {t : List ℕ} {still b : ℕ} (m : Reaching n o place t still b) where
  module _ (low : b < n) where
    pub reaching-on : (still ≡ 0 → ⊥) → get_or t b 0 ≡ o → Reaching n o place t (still - 1) (b + 1)
    reaching-on some e =
        let k : still ≡ suc (still - 1) = omega arith in
        record {
          within = omega arith;
          fits = m.fits;
          gives = m.gives ∙ rw (ahead-here o n t b low m.fits e) (ap (λ (j : ℕ). get_or (b ∷ ahead o (b + 1) n t) j 0) k);
        }

    pub reaching-past : (get_or t b 0 ≡ o → ⊥) → Reaching n o place t still (b + 1)
    reaching-past f = record { within = omega arith; fits = m.fits; gives = m.gives ∙ rw (ahead_past o n t b low m.fits f) }

    pub reaching-here : still ≡ 0 → get_or t b 0 ≡ o → b ≡ get_or (numbers_of o 0 (take n t)) place 0
    reaching-here q e = sym (m.gives ∙ rw (ahead-here o n t b low m.fits e, q))

  pub reaching-none : n ≤ b → 0 ≡ get_or (numbers_of o 0 (take n t)) place 0
  reaching-none h = sym (m.gives ∙ rw (ahead_none o n t b h))
