-- A loop that goes through the first n elements of a list: what it still has to find out, from place i on, is what was wanted. Assumes nothing.
use mathlib.Core.Path.{◌≡◌, refl, sym, ap, ◌∙◌}
use mathlib.Core.List.{List, [], ◌∷◌}
use Prim.Native.Nat.{ℕ, ◌+◌, ◌-◌, ◌≤◌, ◌<◌}
use native.Mathlib.Numerals.{add-one}
use native.Mathlib.Omega.{arith}
use lib.ListN.{length, get_or, take, drop, drop_of_length-le}
use lib.Seq.{drop-cons, length-take-le, get_or-take, take_all}

-- wanted is what f says of the elements from place i on; f is told the place too
pub record Left {A B : Type 0} (f : ℕ → List A → B) (wanted : B) (n : ℕ) (xs : List A) (i : ℕ) : Type 0 where
  pub within : i ≤ n
  pub there : n ≤ length xs
  pub is : wanted ≡ f i (drop i (take n xs))

module _ {A B : Type 0} (f : ℕ → List A → B) (n : ℕ) (xs : List A) where
  -- the first n elements, from the first on
  pub begins : n ≤ length xs → Left f (f 0 (take n xs)) n xs 0
  begins h = record { within = omega arith; there = h; is = refl }

  -- all the elements, from place i on
  pub begins-at : (i : ℕ) → length xs ≡ n → i ≤ n → Left f (f i (drop i xs)) n xs i
  begins-at i e h =
      record { within = h; there = omega arith; is = ap (λ (ys : List A). f i (drop i ys)) (sym (take_all n xs (omega arith))) }

module _ {A B : Type 0} {f : ℕ → List A → B} {wanted : B} {n : ℕ} {xs : List A} {i : ℕ} (l : Left f wanted n xs i) where
  -- where all elements count, what comes behind place i is the rest of the list
  pub behind : length xs ≡ n → drop (i + 1) (take n xs) ≡ drop (i + 1) xs
  behind e = ap (drop (i + 1)) (take_all n xs (omega arith))

  module _ (d : A) (h : i < n) where
    next : drop i (take n xs) ≡ get_or xs i d ∷ drop (i + 1) (take n xs)
    next =
        drop-cons (take n xs) i d (omega (arith, length-take-le n xs l.there))
        ∙ rw (get_or-take n xs i d h, add-one i)

    -- the element at place i settles it
    pub settled : {r : B} → f i (get_or xs i d ∷ drop (i + 1) (take n xs)) ≡ r → r ≡ wanted
    settled e = sym (l.is ∙ ap (f i) next ∙ e)

    -- the element at place i is passed
    pub passed : f i (get_or xs i d ∷ drop (i + 1) (take n xs)) ≡ f (i + 1) (drop (i + 1) (take n xs)) → Left f wanted n xs (i + 1)
    passed e = record { within = omega arith; there = l.there; is = l.is ∙ ap (f i) next ∙ e }

  -- no element is left
  pub ended : {r : B} → n ≤ i → f i [] ≡ r → r ≡ wanted
  ended h e = sym (l.is ∙ ap (f i) (drop_of_length-le (take n xs) {i = i} (omega (arith, length-take-le n xs l.there))) ∙ e)

-- what `&xs[0..n]` is
pub from_zero : {A : Type 0} (n : ℕ) (xs : List A) → take (n - 0) xs ≡ take n xs
from_zero n xs =
    let same : n - 0 ≡ n = omega arith in
    rw same
