-- When a frame has its size and its marker. Assumes nothing.
use mathlib.Core.Path.{◌≡◌, refl}
use mathlib.Core.Bool.{Bool, true, false, ◌&&◌, false≢true}
use mathlib.Core.List.{List, [], ◌∷◌}
use Prim.Native.Nat.{ℕ, ◌≤◌}
use native.Mathlib.Omega.{arith}
use borrow.Author.Tests.{eq-eqb, ne_eqb, eqb-true}
use lib.Dec.{eqb}
use lib.ListN.{length, get_or}
use Rattle.frame.specs.Header.{marker, starts_with, derandomised}
use Rattle.frame.specs.Refusals.{sized_and_marked, plain_after}

-- the marker, octet by octet
pub marker-octets : (f : List ℕ) → 4 ≤ length f
    → starts_with marker f ≡ (eqb (get_or f 0 0) 0x1a && (eqb (get_or f 1 0) 0xcf && (eqb (get_or f 2 0) 0xfc && (eqb (get_or f 3 0) 0x1d && true))))
unfolding starts_with
marker-octets [] h = absurd (omega arith)
marker-octets (a ∷ []) h = absurd (omega arith)
marker-octets (a ∷ b ∷ []) h = absurd (omega arith)
marker-octets (a ∷ b ∷ c ∷ []) h = absurd (omega arith)
marker-octets (a ∷ b ∷ c ∷ d ∷ f) h = refl

pub both : (a b : Bool) → (a && b) ≡ true → (a ≡ true) × (b ≡ true)
both true b e = (refl, e)
both false b e = absurd (false≢true e)

module _ (f : List ℕ) where
  pub framed_is : sized_and_marked f ≡ true → (length f ≡ 1024) × (starts_with marker f ≡ true)
  unfolding sized_and_marked
  framed_is e =
      let t = both (eqb (length f) 1024) (starts_with marker f) e in
      (eqb-true _ _ t.0, t.1)

  pub is_framed : length f ≡ 1024 → starts_with marker f ≡ true → sized_and_marked f ≡ true
  unfolding sized_and_marked
  is_framed s m = rw (eq-eqb _ _ s, m)

  pub missized : (length f ≡ 1024 → ⊥) → sized_and_marked f ≡ false
  unfolding sized_and_marked
  missized n = rw (ne_eqb _ _ n)

  pub unmarked : length f ≡ 1024 → starts_with marker f ≡ false → sized_and_marked f ≡ false
  unfolding sized_and_marked
  unmarked s m = rw (eq-eqb _ _ s, m)

  module _ (before : List ℕ) where
    pub plain-framed : sized_and_marked f ≡ true → plain_after f before ≡ derandomised f
    unfolding plain_after
    plain-framed e = rw e

    pub plain-unframed : sized_and_marked f ≡ false → plain_after f before ≡ before
    unfolding plain_after
    plain-unframed e = rw e
