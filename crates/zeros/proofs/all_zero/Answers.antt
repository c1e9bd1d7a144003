-- `zeros::all_zero` meets its contract, by those of `four_zero` and `run_zero`. Assumes nothing.
use mathlib.Core.Path.{◌≡◌, sym, ◌∙◌}
use mathlib.Core.Bool.{Bool, true, false, ◌&&◌}
use mathlib.Core.List.{List}
use Prim.Native.Nat.{ℕ, ◌+◌, ◌-◌, ◌/◌, ◌≤◌}
use native.Mathlib.Omega.{arith}
use lib.ListN.{length}
use Rattle.octets.specs.Number.{part}
use Rattle.octets.specs.Buffer.{all_zero, four_zero}
use Rattle.octets.proofs.Lists.{whole_part}
use Rattle.octets.proofs.Tests.{denied, granted}
use Rattle.octets.proofs.Zero.{all_zero-five}
use Rattle.zeros.proofs.all_zero.Goals as goal

-- the stretch from a up to f, whose first four quarters, each of q octets, are told
module _ (s : List ℕ) (a q f : ℕ) (h : a + q + q + q + q ≤ f) where
  abbrev quarters : Bool
  quarters =
      four_zero (part a (a + q - a) s) (part (a + q) (a + q + q - (a + q)) s) (part (a + q + q) (a + q + q + q - (a + q + q)) s)
      (part (a + q + q + q) (a + q + q + q + q - (a + q + q + q)) s)

  all : all_zero (part a (f - a) s) ≡ (quarters && all_zero (part (a + q + q + q + q) (f - (a + q + q + q + q)) s))
  all =
      all_zero-five s a (a + q) (a + q + q) (a + q + q + q) (a + q + q + q + q) f (omega arith) (omega arith) (omega arith) (omega arith) h

  spoilt : quarters ≡ false → all_zero (part a (f - a) s) ≡ false
  spoilt e = all ∙ rw e

  blank : quarters ≡ true → all_zero (part a (f - a) s) ≡ all_zero (part (a + q + q + q + q) (f - (a + q + q + q + q)) s)
  blank e = all ∙ rw e

-- the quarters are of one length
module _ (s : List ℕ) (a q : ℕ) (h : a + q + q + q + q ≤ length s) where
  one : (x : ℕ) → x + q ≤ length s → length (part x (x + q - x) s) ≡ q
  one x k =
      let n : x + q - x ≡ q = omega arith in
      rw n (whole_part s x q k)

  alike : (length (part a (a + q - a) s) ≡ length (part (a + q) (a + q + q - (a + q)) s))
      × (length (part (a + q) (a + q + q - (a + q)) s) ≡ length (part (a + q + q) (a + q + q + q - (a + q + q)) s))
      × (length (part (a + q + q) (a + q + q + q - (a + q + q)) s) ≡ length (part (a + q + q + q) (a + q + q + q + q - (a + q + q + q)) s))
  alike =
      let first = one a (omega arith) in
      let second = one (a + q) (omega arith) in
      let third = one (a + q + q) (omega arith) in
      (first ∙ sym second, second ∙ sym third, third ∙ sym (one (a + q + q + q) h))

pub four_zero-requires : goal.four_zero-requires
four_zero-requires c =
    let a = c.args in
    alike a.s.now a.from ((a.to - a.from) / 4) (omega arith)

pub returns-then-not-four_zero : goal.returns-then-not-four_zero
returns-then-not-four_zero c =
    let a = c.args in
    sym (spoilt a.s.now a.from ((a.to - a.from) / 4) a.to (omega arith) (search denied))

pub run_zero-requires : goal.run_zero-requires
run_zero-requires c = (omega arith, omega arith)

pub returns : goal.returns
returns c =
    let a = c.args in
    c.run_zero.ensures ∙ sym (blank a.s.now a.from ((a.to - a.from) / 4) a.to (omega arith) (search granted))
