-- The laws of blank stretches. Assumes nothing.
use mathlib.Core.Path.{◌≡◌, refl, sym, ap, ap₂, ◌∙◌}
use mathlib.Core.Bool.{Bool, true, ◌&&◌, and-eq-true_iff, and-true, and_assoc}
use mathlib.Core.List.{List, [], ◌∷◌, ◌++◌}
use Prim.Native.Nat.{ℕ, zero, suc, ◌+◌, ◌-◌, ◌<◌, ◌≤◌}
use native.Mathlib.Numerals.{add-one}
use native.Mathlib.Omega.{arith}
use borrow.Author.Tests.{eqb-true, eq-eqb, ne_eqb}
use lib.Bits.{bit_or, or_add_and, and_le_r, or_zero_l}
use lib.Dec.{eqb, eqb-suc-zero}
use lib.ListN.{length, get_or, drop, replicate, drop_of_length-le}
use lib.Seq.{drop-cons}
use Rattle.octets.specs.Number.{part}
use Rattle.octets.specs.Buffer.{all_zero, four_zero}
use Rattle.octets.proofs.Lists.{part-add}
use Rattle.octets.proofs.Tests.{and_both, and-exchange}

pub or-more : (a b : ℕ) → a ≤ bit_or a b
or-more a b = omega (arith, or_add_and a b, and_le_r a b)

-- an "or" is zero exactly if both are
pub or-zero : (a b : ℕ) → eqb (bit_or a b) 0 ≡ (eqb a 0 && eqb b 0)
or-zero zero b = ap (λ (x : ℕ). eqb x 0) (or_zero_l b)
or-zero (suc a) b =
    ne_eqb (bit_or (suc a) b) 0 (λ e. omega (arith, or-more (suc a) b, e)) ∙ ap (λ (t : Bool). t && eqb b 0) (sym (eqb-suc-zero a))

-- a loop that gathers the "or" of the octets from place i up to place to: a turn, and where it ends
module _ (s : List ℕ) (to : ℕ) (goal : Bool) (any i : ℕ) (e : goal ≡ (eqb any 0 && all_zero (part i (to - i) s))) where
  pub gather-more : i < to → to ≤ length s → goal ≡ (eqb (bit_or any (get_or s i 0)) 0 && all_zero (part (i + 1) (to - (i + 1)) s))
  unfolding all_zero
  gather-more h k =
      let m : to - i ≡ suc (to - suc i) = omega arith in
      let l : i < length s = omega arith in
      rw (add-one, or-zero, and_assoc) (e ∙ rw (m, drop-cons s i 0 l))

  pub gather-all : to ≤ i → eqb any 0 ≡ goal
  unfolding all_zero
  gather-all h =
      let m : to - i ≡ 0 = omega arith in
      sym (e ∙ rw (m, and-true))

-- the same over a whole list
module _ (xs : List ℕ) (goal : Bool) (any i : ℕ) (e : goal ≡ (eqb any 0 && all_zero (drop i xs))) where
  pub gathered-more : i < length xs → goal ≡ (eqb (bit_or any (get_or xs i 0)) 0 && all_zero (drop (i + 1) xs))
  unfolding all_zero
  gathered-more h = rw (add-one, or-zero, and_assoc) (e ∙ rw (drop-cons xs i 0 h))

  pub gathered-all : length xs ≤ i → eqb any 0 ≡ goal
  unfolding all_zero
  gathered-all h = sym (e ∙ rw (drop_of_length-le xs h, and-true))

-- the tests of four heads, brought in front of those of the tails
four-turn : (z a a' b b' c c' d d' : Bool)
    → (z && (((a && a') && (b && b')) && ((c && c') && (d && d')))) ≡ ((z && ((a && b) && (c && d))) && ((a' && b') && (c' && d')))
four-turn z a a' b b' c c' d d' =
    ap (λ (t : Bool). z && t) (ap₂ ◌&&◌ (and-exchange a a' b b') (and-exchange c c' d d') ∙ and-exchange (a && b) (a' && b') (c && d) (c' && d'))
    ∙ sym (and_assoc z ((a && b) && (c && d)) ((a' && b') && (c' && d')))

or-four : (n a b c d : ℕ)
    → eqb (bit_or n (bit_or (bit_or a b) (bit_or c d))) 0 ≡ (eqb n 0 && ((eqb a 0 && eqb b 0) && (eqb c 0 && eqb d 0)))
or-four n a b c d =
    or-zero n (bit_or (bit_or a b) (bit_or c d))
    ∙ ap (λ (t : Bool). eqb n 0 && t) (or-zero (bit_or a b) (bit_or c d) ∙ ap₂ ◌&&◌ (or-zero a b) (or-zero c d))

-- a loop that gathers the "or" of four stretches from place i on: a turn, and where it ends
module _ (a b c d : List ℕ) (goal : Bool) (any i : ℕ) (e : goal ≡ (eqb any 0 && four_zero (drop i a) (drop i b) (drop i c) (drop i d))) where
  pub four-more : i < length a → i < length b → i < length c → i < length d
      → goal ≡ (eqb (bit_or any (bit_or (bit_or (get_or a i 0) (get_or b i 0)) (bit_or (get_or c i 0) (get_or d i 0)))) 0
      && four_zero (drop (i + 1) a) (drop (i + 1) b) (drop (i + 1) c) (drop (i + 1) d))
  unfolding all_zero
  four-more h k l m =
      e ∙ rw (add-one, drop-cons a i 0 h, drop-cons b i 0 k, drop-cons c i 0 l, drop-cons d i 0 m, or-four)
      (four-turn (eqb any 0) (eqb (get_or a i 0) 0) (all_zero (drop (suc i) a)) (eqb (get_or b i 0) 0) (all_zero (drop (suc i) b))
      (eqb (get_or c i 0) 0) (all_zero (drop (suc i) c)) (eqb (get_or d i 0) 0) (all_zero (drop (suc i) d)))

  pub four-all : length a ≤ i → length b ≤ i → length c ≤ i → length d ≤ i → eqb any 0 ≡ goal
  unfolding all_zero
  four-all h k l m =
      sym (e ∙ rw (drop_of_length-le a h, drop_of_length-le b k, drop_of_length-le c l, drop_of_length-le d m, and-true))

pub all_zero-append : (xs ys : List ℕ) → all_zero (xs ++ ys) ≡ (all_zero xs && all_zero ys)
unfolding all_zero
all_zero-append [] ys = refl
all_zero-append (x ∷ xs) ys = rw (all_zero-append xs ys, and_assoc)

-- a stretch, cut in two
pub all_zero-cut : (s : List ℕ) (a b c : ℕ) → a ≤ b → b ≤ c → all_zero (part a (c - a) s) ≡ (all_zero (part a (b - a) s) && all_zero (part b (c - b) s))
all_zero-cut s a b c h k =
    let n : c - a ≡ (b - a) + (c - b) = omega arith in
    let p : a + (b - a) ≡ b = omega arith in
    rw (n, part-add s a (b - a) (c - b), p) (all_zero-append (part a (b - a) s) (part b (c - b) s))

-- and in five, four of which are told at once
module _ (s : List ℕ) (a b c d e f : ℕ) (p : a ≤ b) (q : b ≤ c) (r : c ≤ d) (t : d ≤ e) (u : e ≤ f) where
  pub all_zero-five : all_zero (part a (f - a) s)
      ≡ (four_zero (part a (b - a) s) (part b (c - b) s) (part c (d - c) s) (part d (e - d) s) && all_zero (part e (f - e) s))
  all_zero-five =
      all_zero-cut s a e f (omega arith) u
      ∙ ap (λ (z : Bool). z && all_zero (part e (f - e) s))
      (all_zero-cut s a c e (omega arith) (omega arith) ∙ ap₂ ◌&&◌ (all_zero-cut s a b c p q) (all_zero-cut s c d e r t))

pub all_zero-replicate : (n : ℕ) → all_zero (replicate n 0) ≡ true
unfolding all_zero
all_zero-replicate zero = refl
all_zero-replicate (suc n) = all_zero-replicate n

-- blank is: as many zeros
pub blank-zeros : (xs : List ℕ) → all_zero xs ≡ true → xs ≡ replicate (length xs) 0
unfolding all_zero
blank-zeros [] e = refl
blank-zeros (x ∷ xs) e =
    let p = (and-eq-true_iff (eqb x 0) (all_zero xs)).0 e in
    ap₂ (λ (y : ℕ) (ys : List ℕ). y ∷ ys) (eqb-true x 0 p.0) (blank-zeros xs p.1)

pub all-blank : (xs : List ℕ) → ((i : ℕ) → i < length xs → get_or xs i 0 ≡ 0) → all_zero xs ≡ true
unfolding all_zero
all-blank [] f = refl
all-blank (x ∷ xs) f = and_both (eq-eqb x 0 (f 0 (omega arith))) (all-blank xs (λ i h. f (suc i) (omega arith)))

-- an octet of a blank stretch
pub blank-at : (xs : List ℕ) (i : ℕ) → all_zero xs ≡ true → get_or xs i 0 ≡ 0
unfolding all_zero
blank-at [] i e = refl
blank-at (x ∷ xs) zero e = eqb-true x 0 ((and-eq-true_iff (eqb x 0) (all_zero xs)).0 e).0
blank-at (x ∷ xs) (suc i) e = blank-at xs i ((and-eq-true_iff (eqb x 0) (all_zero xs)).0 e).1
