-- What is said of each number below a bound, of some number below it, and of each two of them. Assumes nothing.
use mathlib.Core.Path.{◌≡◌}
use mathlib.Core.Logic.{◌⊎◌, inl, inr}
use Prim.Native.Nat.{ℕ, zero, suc, ◌<◌}
use native.Mathlib.Nat.{le_of_suc-le-suc, not-suc-le-zero}
use native.Mathlib.Omega.{arith}

-- two numbers of which neither is less
pub neither : (i j : ℕ) → (i < j → ⊥) → (j < i → ⊥) → i ≡ j
neither i j f g = omega arith

-- by the first number and the others
abbrev pub Below : (ℕ → Type 0) → ℕ → Type 0
Below P n = (i : ℕ) → i < n → P i

abbrev pub Some : (ℕ → Type 0) → ℕ → Type 0
Some P n = (i : ℕ) × (i < n) × P i

abbrev pub Apart : (ℕ → ℕ → Type 0) → ℕ → Type 0
Apart R n = (i j : ℕ) → i < j → j < n → R i j → ⊥

module _ (P : ℕ → Type 0) where
  pub below_none : Below P 0
  below_none i h = absurd (not-suc-le-zero h)

  pub below-cons : {n : ℕ} → P 0 → Below (λ (i : ℕ). P (suc i)) n → Below P (suc n)
  below-cons p f zero h = p
  below-cons p f (suc i) h = f i (le_of_suc-le-suc h)

  pub below-tail : {n : ℕ} → Below P (suc n) → Below (λ (i : ℕ). P (suc i)) n
  below-tail f i h = f (suc i) (omega arith)

  pub some-none : Some P 0 → ⊥
  some-none s = not-suc-le-zero s.1

  pub some-cons : {n : ℕ} → P 0 ⊎ Some (λ (i : ℕ). P (suc i)) n → Some P (suc n)
  some-cons (inl p) = (0, omega arith, p)
  some-cons (inr s) = (suc s.0, omega arith, s.2)

  pub some-case : {n : ℕ} → Some P (suc n) → P 0 ⊎ Some (λ (i : ℕ). P (suc i)) n
  some-case (zero, h, p) = inl p
  some-case (suc i, h, p) = inr (i, le_of_suc-le-suc h, p)

module _ (R : ℕ → ℕ → Type 0) where
  pub apart_none : Apart R 0
  apart_none i j h k r = not-suc-le-zero k

  pub apart_cons : {n : ℕ} → (Some (λ (j : ℕ). R 0 (suc j)) n → ⊥) → Apart (λ (i j : ℕ). R (suc i) (suc j)) n → Apart R (suc n)
  apart_cons f g i zero h k r = not-suc-le-zero h
  apart_cons f g zero (suc j) h k r = f (j, le_of_suc-le-suc k, r)
  apart_cons f g (suc i) (suc j) h k r = g i j (le_of_suc-le-suc h) (le_of_suc-le-suc k) r

  pub apart-head : {n : ℕ} → Apart R (suc n) → Some (λ (j : ℕ). R 0 (suc j)) n → ⊥
  apart-head f s = f 0 (suc s.0) (omega arith) (omega arith) s.2

  pub apart-tail : {n : ℕ} → Apart R (suc n) → Apart (λ (i j : ℕ). R (suc i) (suc j)) n
  apart-tail f i j h k r = f (suc i) (suc j) (omega arith) (omega arith) r
