-- The loop over a portion finds the first marker by the rule. Assumes nothing.
use mathlib.Core.Path.{◌≡◌, refl, sym, ap, ◌∙◌}
use mathlib.Core.Bool.{Bool, true, false, true≢false}
use mathlib.Core.List.{List, [], ◌∷◌}
use Prim.Native.Nat.{ℕ, zero, suc, ◌+◌, ◌-◌, ◌/◌, ◌%◌, ◌^◌, ◌≤◌, ◌<◌}
use native.Mathlib.Numerals.{add-one}
use native.Mathlib.Omega.{arith}
use lib.Count.{ones, ones_step}
use mathlib.Core.Logic.{⊎_elim}
use native.Mathlib.Nat.{eq-zero-or-pos}
use lib.ListN.{length, take, drop, get_or}
use lib.Seq.{drop-cons}
use Rattle.octets.specs.Number.{Octets, part, number}
use Rattle.stream.specs.declared.Sought.{Sought}
use Rattle.stream.specs.declared.Sought.TheVariants.{At, Nowhere}
use Rattle.stream.specs.Stream.{is_marker, wrong_bits, Here, here}
use Rattle.stream.specs.Stream.Here.{Waits, Passes, Whole}
use Rattle.stream.specs.Hunter.{passed}
use Rattle.stream.specs.Seek.{near, moved, sought_in}
use Rattle.stream.proofs.Cutting.{passes-is, is-passes}

module _ (k i v x : ℕ) (xs : List ℕ) where
  pub sought-hit : near k (moved v x) ≡ true → sought_in k i v (x ∷ xs) ≡ At (suc i) (moved v x)
  unfolding sought_in
  sought-hit n = rw (n, sought_in)

  pub sought-miss : near k (moved v x) ≡ false → sought_in k i v (x ∷ xs) ≡ sought_in k (suc i) (moved v x) xs
  unfolding sought_in
  sought-miss n = rw (n, sought_in)

-- the loop over a stretch: a turn that finds, one that does not, and the end
module _ (xs : List ℕ) (to k i v : ℕ) {goal : Sought} (e : goal ≡ sought_in k i v (part i (to - i) xs)) where
  module _ (h : i < to) (l : to ≤ length xs) where
    next-octet : part i (to - i) xs ≡ get_or xs i 0 ∷ part (i + 1) (to - (i + 1)) xs
    next-octet =
        let m : to - i ≡ suc (to - suc i) = omega arith in
        let h : i < length xs = omega arith in
        rw (add-one, m, drop-cons xs i 0 h)

    pub seek_found : near k (moved v (get_or xs i 0)) ≡ true → At (i + 1) (moved v (get_or xs i 0)) ≡ goal
    seek_found n =
        sym (e ∙ ap (sought_in k i v) next-octet ∙ sought-hit k i v (get_or xs i 0) (part (i + 1) (to - (i + 1)) xs) n ∙ rw add-one)

    pub seek-more : near k (moved v (get_or xs i 0)) ≡ false → goal ≡ sought_in k (i + 1) (moved v (get_or xs i 0)) (part (i + 1) (to - (i + 1)) xs)
    seek-more n =
        e ∙ ap (sought_in k i v) next-octet ∙ sought-miss k i v (get_or xs i 0) (part (i + 1) (to - (i + 1)) xs) n
        ∙ ap (λ (j : ℕ). sought_in k j (moved v (get_or xs i 0)) (part (i + 1) (to - (i + 1)) xs)) (sym (add-one i))

  pub seek-end : to ≤ i → Nowhere v ≡ goal
  unfolding sought_in
  seek-end h =
      let m : to - i ≡ 0 = omega arith in
      sym (e ∙ rw m)

-- ---- what is found is the first place that is not passed over

module _ (k : ℕ) where
  pub passed_none : (xs : List ℕ) → (here k xs ≡ Passes → ⊥) → passed k xs ≡ 0
  unfolding passed
  passed_none [] n = refl
  passed_none (x ∷ xs) n = go (here k (x ∷ xs)) refl
    where
      go : (l : Here) → here k (x ∷ xs) ≡ l → passed k (x ∷ xs) ≡ 0
      go Waits e = rw (e, passed)
      go Passes e = absurd (n e)
      go Whole e = rw (e, passed)

  pub passed-one : (x : ℕ) (xs : List ℕ) → here k (x ∷ xs) ≡ Passes → passed k (x ∷ xs) ≡ suc (passed k xs)
  unfolding passed
  passed-one x xs e = rw (e, passed)

-- what the loop found in the octets s, three of which came before
pub data Seeks (k i : ℕ) (s : List ℕ) : Sought → Type 0 where
  found : (p v : ℕ) → passed k s ≡ p → p + 4 ≤ length s → is_marker k (drop p s) ≡ true → v ≡ number (take 4 (drop p s)) → Seeks k i s (At (i + suc p) v)
  nowhere : (p v : ℕ) → passed k s ≡ p → length s ≡ p + 3 → v % 2 ^ 24 ≡ number (drop p s) → Seeks k i s (Nowhere v)

module _ (k : ℕ) where
  pub shift : (v a b c x : ℕ) → a < 256 → b < 256 → c < 256 → x < 256 → v % 2 ^ 24 ≡ number (a ∷ b ∷ c ∷ []) → moved v x ≡ number (a ∷ b ∷ c ∷ x ∷ [])
  unfolding number
  shift v a b c x ha hb hc hx e = omega arith

  pub shift-low : (v a b c x : ℕ) → b < 256 → c < 256 → x < 256 → v ≡ number (a ∷ b ∷ c ∷ x ∷ []) → v % 2 ^ 24 ≡ number (b ∷ c ∷ x ∷ [])
  unfolding number
  shift-low v a b c x hb hc hx e = omega arith

  near-marker : (v a b c x : ℕ) (xs : List ℕ) → v ≡ number (a ∷ b ∷ c ∷ x ∷ []) → is_marker k (a ∷ b ∷ c ∷ x ∷ xs) ≡ near k v
  unfolding is_marker wrong_bits number
  near-marker v a b c x xs e = rw e

  pub seeks : (xs : List ℕ) (i v a b c : ℕ) → a < 256 → b < 256 → c < 256 → Octets xs → v % 2 ^ 24 ≡ number (a ∷ b ∷ c ∷ [])
      → Seeks k i (a ∷ b ∷ c ∷ xs) (sought_in k i v xs)
  unfolding sought_in
  seeks [] i v a b c ha hb hc o e =
      nowhere 0 v (passed_none k (a ∷ b ∷ c ∷ []) (λ p. omega (arith, (passes-is k (a ∷ b ∷ c ∷ []) p).0))) refl e
  seeks (x ∷ xs) i v a b c ha hb hc o e =
      let four = shift v a b c x ha hb hc (o 0) e in
      let m = near-marker (moved v x) a b c x xs four in
      go (near k (moved v x)) refl four m
      (seeks xs (suc i) (moved v x) b c x hb hc (o 0) (λ j. o (suc j)) (shift-low (moved v x) a b c x hb hc (o 0) four))
    where
      later : {r : Sought} → here k (a ∷ b ∷ c ∷ x ∷ xs) ≡ Passes → Seeks k (suc i) (b ∷ c ∷ x ∷ xs) r → Seeks k i (a ∷ b ∷ c ∷ x ∷ xs) r
      later l (found p w q f m n) =
          let t : suc i + suc p ≡ i + suc (suc p) = omega arith in
          rw t (found (suc p) w (passed-one k a (b ∷ c ∷ x ∷ xs) l ∙ ap suc q) (omega arith) m n)
      later l (nowhere p w q f n) = nowhere (suc p) w (passed-one k a (b ∷ c ∷ x ∷ xs) l ∙ ap suc q) (omega arith) n

      go : (t : Bool) → near k (moved v x) ≡ t → moved v x ≡ number (a ∷ b ∷ c ∷ x ∷ []) → is_marker k (a ∷ b ∷ c ∷ x ∷ xs) ≡ near k (moved v x)
          → Seeks k (suc i) (b ∷ c ∷ x ∷ xs) (sought_in k (suc i) (moved v x) xs)
          → Seeks k i (a ∷ b ∷ c ∷ x ∷ xs) (sought_in k i v (x ∷ xs))
      go true n four m rest =
          let z : i + 1 ≡ suc i = omega arith in
          rw (sought-hit k i v x xs n, ← z)
          (found 0 (moved v x) (passed_none k (a ∷ b ∷ c ∷ x ∷ xs) (λ p. true≢false (sym (m ∙ n) ∙ (passes-is k (a ∷ b ∷ c ∷ x ∷ xs) p).1))) (omega arith) (m ∙ n) four)
      go false n four m rest =
          rw (sought-miss k i v x xs n) (later (is-passes k (a ∷ b ∷ c ∷ x ∷ xs) (omega arith) (m ∙ n)) rest)

-- ---- a number with no ones is zero

pub ones-zero : (m n : ℕ) → n ≤ m → ones n ≡ 0 → n ≡ 0
ones-zero zero n h e = omega arith
ones-zero (suc m) n h e =
    let s = ones_step n in
    let half : ones (n / 2) ≡ 0 = omega arith in
    let z : n / 2 ≡ 0 = ones-zero m (n / 2) (omega arith) half in
    omega arith

pub ones-more : (n : ℕ) → (n ≡ 0 → ⊥) → 1 ≤ ones n
ones-more n h = ⊎_elim (λ e. absurd (h (ones-zero n n (omega arith) e))) (λ l. l) (eq-zero-or-pos (ones n))
