-- What each pointer means, and which pointers mean it. Assumes nothing.
use mathlib.Core.Path.{◌≡◌, refl}
use mathlib.Core.Logic.{◌⊎◌, inl, inr}
use Prim.Native.Nat.{ℕ, ◌<◌, ◌≤◌}
use native.Mathlib.Omega.{arith}
use borrow.Author.Tests.{lt-ltb, le-ltb, eq-eqb, ne_eqb, ltb-true, ltb-false, eqb-true, eqb-false}
use lib.Dec.{ltb, eqb}
use Rattle.octets.proofs.Lists.{if-cases}
use Rattle.frame.specs.declared.Pointer.{Pointer}
use Rattle.frame.specs.declared.Pointer.TheVariants.{Offset, NoStart, Refused}
use Rattle.frame.specs.Header.{pointer_meaning}

pub below-offset : (p : ℕ) → p < 884 → pointer_meaning p ≡ Offset p
unfolding pointer_meaning
below-offset p h = rw (lt-ltb p 884 h)

pub no_start : (p : ℕ) → p ≡ 2047 → pointer_meaning p ≡ NoStart
unfolding pointer_meaning
no_start p h = rw (le-ltb p 884 (omega arith), eq-eqb p 2047 h)

pub else-refused : (p : ℕ) → 884 ≤ p → (p ≡ 2047 → ⊥) → pointer_meaning p ≡ Refused
unfolding pointer_meaning
else-refused p h n = rw (le-ltb p 884 h, ne_eqb p 2047 n)

-- the pointers of each meaning
abbrev pub Means : ℕ → Pointer → Type 0
Means p (Offset q) = (q ≡ p) × (p < 884)
Means p NoStart = p ≡ 2047
Means p Refused = (884 ≤ p) × (p ≡ 2047 → ⊥)

pub means : (p : ℕ) → Means p (pointer_meaning p)
unfolding pointer_meaning
means p =
    if-cases (Means p) (ltb p 884) (λ h. (refl, ltb-true p 884 h))
    (λ h. if-cases (Means p) (eqb p 2047) (eqb-true p 2047) (λ n. (ltb-false p 884 h, eqb-false p 2047 n)))

-- a pointer that is not refused is an offset in the zone, or says that no packet starts
pub allowed-pointer : (p : ℕ) → (pointer_meaning p ≡ Refused → ⊥) → (p < 884) ⊎ (p ≡ 2047)
allowed-pointer p n = go (pointer_meaning p) n (means p)
  where
    go : (m : Pointer) → (m ≡ Refused → ⊥) → Means p m → (p < 884) ⊎ (p ≡ 2047)
    go (Offset q) k h = inl h.1
    go NoStart k h = inr h
    go Refused k h = absurd (k refl)
