-- The laws of the test of each element of a list. Assumes nothing.
use mathlib.Core.Path.{◌≡◌, refl}
use mathlib.Core.Bool.{Bool, true, ◌&&◌, and_assoc}
use mathlib.Core.List.{List, [], ◌∷◌, ◌++◌}
use Prim.Native.Nat.{ℕ, suc, ◌<◌}
use native.Mathlib.Omega.{arith}
use lib.ListN.{length, get_or}
use Rattle.octets.specs.Choice.{Decides}
use Rattle.octets.specs.Choice.Decides.{holds}
use Rattle.octets.specs.Each.{each}
use Rattle.octets.proofs.Below.{Below, below_none}
use Rattle.octets.proofs.Decide.{told-true, decides-self, decides_below}

module _ {A : Type 0} (f : A → Bool) where
  pub decides-each : (P : ℕ → Type 0) (xs : List A) (d : A) → ((i : ℕ) → i < length xs → Decides (P i) (f (get_or xs i d)))
      → Decides (Below P (length xs)) (each f xs)
  unfolding each
  decides-each P [] d t = holds (below_none P)
  decides-each P (x ∷ xs) d t =
      decides_below P (t 0 (omega arith)) (decides-each (λ (i : ℕ). P (suc i)) xs d (λ i h. t (suc i) (omega arith)))

  each_tells : (xs : List A) (d : A) → Decides ((i : ℕ) → i < length xs → f (get_or xs i d) ≡ true) (each f xs)
  each_tells xs d = decides-each (λ (i : ℕ). f (get_or xs i d) ≡ true) xs d (λ i h. decides-self (f (get_or xs i d)))

  pub each_at : (xs : List A) (d : A) → each f xs ≡ true → (i : ℕ) → i < length xs → f (get_or xs i d) ≡ true
  each_at xs d = told-true (each_tells xs d)

  pub each-cons : (x : A) (xs : List A) → each f (x ∷ xs) ≡ (f x && each f xs)
  unfolding each
  each-cons x xs = refl

  pub each_append : (xs ys : List A) → each f (xs ++ ys) ≡ (each f xs && each f ys)
  unfolding each
  each_append [] ys = refl
  each_append (x ∷ xs) ys = rw (each_append xs ys, and_assoc (f x) (each f xs) (each f ys))
