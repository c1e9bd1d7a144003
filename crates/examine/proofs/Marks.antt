-- A frame begins with the marker exactly if its first four octets, as one number, are the marker's. Assumes nothing.
use mathlib.Core.Path.{◌≡◌, refl, sym, ap, ◌∙◌}
use mathlib.Core.Bool.{Bool, true, false, ◌&&◌}
use mathlib.Core.List.{List}
use Prim.Native.Nat.{ℕ, ◌+◌, ◌*◌, ◌≤◌, ◌<◌}
use native.Mathlib.Omega.{arith}
use borrow.Author.Tests.{eq-eqb, ne_eqb, eqb-true, eqb-false}
use lib.Dec.{eqb}
use lib.ListN.{length, get_or}
use Rattle.octets.specs.Number.{Octets, number_at}
use Rattle.octets.proofs.Numbers.{three-octets, number_more}
use Rattle.frame.specs.Header.{marker, starts_with}
use Rattle.frame.proofs.Framing.{marker-octets}

module _ (a b c d n : ℕ) (is : n ≡ 0x1acffc1d) (bs : b < 256) (cs : c < 256) (ds : d < 256) where
  abbrev joined : ℕ
  joined = ((a * 256 + b) * 256 + c) * 256 + d

  -- octet by octet, up to the first that differs
  joined_by : (w x y z : Bool) → eqb a 0x1a ≡ w → eqb b 0xcf ≡ x → eqb c 0xfc ≡ y → eqb d 0x1d ≡ z
      → eqb joined n ≡ (w && (x && (y && (z && true))))
  joined_by true true true true p q r s =
      eq-eqb joined n (omega (arith, eqb-true a 0x1a p, eqb-true b 0xcf q, eqb-true c 0xfc r, eqb-true d 0x1d s))
  joined_by true true true false p q r s =
      ne_eqb joined n (λ e. omega (arith, eqb-true a 0x1a p, eqb-true b 0xcf q, eqb-true c 0xfc r, eqb-false d 0x1d s))
  joined_by true true false z p q r s =
      ne_eqb joined n (λ e. omega (arith, eqb-true a 0x1a p, eqb-true b 0xcf q, eqb-false c 0xfc r))
  joined_by true false y z p q r s = ne_eqb joined n (λ e. omega (arith, eqb-true a 0x1a p, eqb-false b 0xcf q))
  joined_by false x y z p q r s = ne_eqb joined n (λ e. omega (arith, eqb-false a 0x1a p))

pub marker-number : (f : List ℕ) → Octets f → 4 ≤ length f → (n : ℕ) → n ≡ 0x1acffc1d → eqb (number_at f 0 4) n ≡ starts_with marker f
marker-number f octets four n is =
    ap (λ (k : ℕ). eqb k n) (sym (number_more f 0 _ 3 four (three-octets f 0 (omega arith))))
    ∙ joined_by (get_or f 0 0) (get_or f 1 0) (get_or f 2 0) (get_or f 3 0) n is (octets 1) (octets 2) (octets 3) _ _ _ _ refl refl refl refl
    ∙ sym (marker-octets f four)
