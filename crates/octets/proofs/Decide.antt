-- What a test that decides a fact tells, and how such a test is made of others. Assumes nothing.
use Rattle.std.specs.Prelude.{if◌then◌else◌}
use mathlib.Core.Path.{◌≡◌, refl, sym, subst}
use mathlib.Core.Bool.{Bool, true, false, not, ◌&&◌, ◌||◌, true≢false, false≢true}
use mathlib.Core.Logic.{◌↔◌, ◌⊎◌, inl, inr, ⊎_elim}
use Prim.Native.Nat.{ℕ, suc, ◌≤◌, ◌<◌}
use native.Mathlib.Omega.{arith}
use borrow.Author.Tests.{leb-true, leb-false, ltb-true, ltb-false, eqb-true, eqb-false}
use lib.Dec.{leb, ltb, eqb}
use Rattle.octets.specs.Choice.{Decides}
use Rattle.octets.specs.Choice.Decides.{holds, fails}
use Rattle.octets.proofs.Below.{Below, Some, Apart, below-cons, below-tail, some-cons, some-case, apart_cons, apart-head, apart-tail}

pub told-true : {P : Type 0} {r : Bool} → Decides P r → r ≡ true → P
told-true (holds p) e = p
told-true (fails f) e = absurd (false≢true e)

pub told-false : {P : Type 0} {r : Bool} → Decides P r → r ≡ false → P → ⊥
told-false (holds p) e q = true≢false e
told-false (fails f) e q = f q

pub tells : {P : Type 0} {r : Bool} → Decides P r → P → r ≡ true
tells (holds p) q = refl
tells (fails f) q = absurd (f q)

-- true exactly if P
pub exactly : {P : Type 0} {r : Bool} → Decides P r → (r ≡ true) ↔ P
exactly d = (told-true d, tells d)

pub decides-of : {P : Type 0} {a b : Bool} → a ≡ b → Decides P b → Decides P a
decides-of {P} e d = subst (Decides P) (sym e) d

-- one fact has one answer
pub decides-once : {P : Type 0} {a b : Bool} → Decides P a → Decides P b → a ≡ b
decides-once (holds p) d = sym (tells d p)
decides-once (fails f) (holds q) = absurd (f q)
decides-once (fails f) (fails g) = refl

-- the same fact in other words
pub decides-same : {P Q : Type 0} {r : Bool} → (P → Q) → (Q → P) → Decides P r → Decides Q r
decides-same to back (holds p) = holds (to p)
decides-same to back (fails f) = fails (λ q. f (back q))

-- a test by its two answers
pub decides-by : {P : Type 0} (b : Bool) → (b ≡ true → P) → (b ≡ false → P → ⊥) → Decides P b
decides-by true y n = holds (y refl)
decides-by false y n = fails (n refl)

pub decides-self : (b : Bool) → Decides (b ≡ true) b
decides-self true = holds refl
decides-self false = fails false≢true

pub decides-leb : (a b : ℕ) → Decides (a ≤ b) (leb a b)
decides-leb a b = decides-by (leb a b) (leb-true a b) (λ e h. omega (arith, leb-false a b e))

pub decides_ltb : (a b : ℕ) → Decides (a < b) (ltb a b)
decides_ltb a b = decides-by (ltb a b) (ltb-true a b) (λ e h. omega (arith, ltb-false a b e))

pub decides_eqb : (a b : ℕ) → Decides (a ≡ b) (eqb a b)
decides_eqb a b = decides-by (eqb a b) (eqb-true a b) (eqb-false a b)

module _ {P Q : Type 0} where
  -- the second test has to tell only where the first says yes
  pub decides-then : {a b : Bool} → Decides P a → (P → Decides Q b) → Decides (P × Q) (a && b)
  decides-then (holds p) d = decides-same (λ q. (p, q)) (λ r. r.1) (d p)
  decides-then (fails f) d = fails (λ r. f r.0)

  infixl 35 ◌and◌
  pub ◌and◌ : {a b : Bool} → Decides P a → Decides Q b → Decides (P × Q) (a && b)
  p and q = decides-then p (λ r. q)

  pub decides_or : {a b : Bool} → Decides P a → Decides Q b → Decides (P ⊎ Q) (a || b)
  decides_or (holds p) d = holds (inl p)
  decides_or (fails f) (holds q) = holds (inr q)
  decides_or (fails f) (fails g) = fails (⊎_elim f g)

  -- a choice, each case under its answer
  pub decides-if : (b : Bool) {x y : Bool} → (b ≡ true → Decides P x) → (b ≡ false → Decides Q y)
      → Decides ((b ≡ true → P) × (b ≡ false → Q)) (if b then x else y)
  decides-if true p q = decides-same (λ h. (λ e. h, λ e. absurd (true≢false e))) (λ h. h.0 refl) (p refl)
  decides-if false p q = decides-same (λ h. (λ e. absurd (false≢true e), λ e. h)) (λ h. h.1 refl) (q refl)

pub decides_not : {P : Type 0} {a : Bool} → Decides P a → Decides (P → ⊥) (not a)
decides_not (holds p) = fails (λ f. f p)
decides_not (fails f) = holds f

pub decides-unless : {P : Type 0} (b : Bool) {x : Bool} → Decides P x → Decides (b ≡ false → P) (b || x)
decides-unless true d = holds (λ e. absurd (true≢false e))
decides-unless false d = decides-same (λ p e. p) (λ f. f refl) d

-- tests that go along a list
module _ (P : ℕ → Type 0) {n : ℕ} {a b : Bool} where
  pub decides_below : Decides (P 0) a → Decides (Below (λ (i : ℕ). P (suc i)) n) b → Decides (Below P (suc n)) (a && b)
  decides_below d e =
      decides-same (λ (p, f). below-cons P p f) (λ f. (f 0 (omega arith), below-tail P f)) (d and e)

  pub decides-some : Decides (P 0) a → Decides (Some (λ (i : ℕ). P (suc i)) n) b → Decides (Some P (suc n)) (a || b)
  decides-some d e = decides-same (some-cons P) (some-case P) (decides_or d e)

pub decides-apart : (R : ℕ → ℕ → Type 0) {n : ℕ} {a b : Bool} → Decides (Some (λ (j : ℕ). R 0 (suc j)) n) a
    → Decides (Apart (λ (i j : ℕ). R (suc i) (suc j)) n) b → Decides (Apart R (suc n)) (not a && b)
decides-apart R d e =
    decides-same (λ (f, g). apart_cons R f g) (λ h. (apart-head R h, apart-tail R h)) (decides_not d and e)
