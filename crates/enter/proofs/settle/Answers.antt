-- `enter::settle` meets its contract: what was handed in is a catalogue, or 31; then 30, and 31 for the facts. Assumes nothing.
use Rattle.std.specs.Prelude.{Some, None}
use mathlib.Core.Path.{◌≡◌, sym, subst, ◌∙◌}
use Prim.Native.Nat.{◌<◌}
use native.Mathlib.Omega.{arith}
use Rattle.octets.proofs.Tests.{denied, granted}
use Rattle.refusals.specs.Refusals.{refuse}
use Rattle.refusals.proofs.Passing.{passed_on}
use Rattle.enter.specs.Contract.{Stands, Settled}
use Rattle.enter.proofs.Settling.{too_long, is_none, stands, is-full, is-bad, few-at}
use Rattle.enter.proofs.settle.Goals as goal
use Rattle.enter.proofs.settle.Goals.{In_ok-at, Else-at-eq-MOST}

-- where a catalogue was found
standing : (c : In_ok-at) → Stands c.args.b.now c.args.used c.in_ok-at.at
standing c =
    let found : c.find.result ≡ Some c.in_ok-at.at = grind (arith, c.ok_or.ensures.value, c.in_ok-at.was) in
    stands _ _ (omega arith) (sym c.find.ensures ∙ found)

-- not 1,024, so fewer
few : (c : Else-at-eq-MOST) → c.in_ok-at.at.files < 1024
few c = omega (arith, few-at (standing (goal.at.Else-at-eq-MOST c).In_ok-at) (λ i. (c.type_inv.b i).fits))

pub returns-then-used-b : goal.returns-then-used-b
returns-then-used-b c =
    let a = c.args in
    too_long a.b.now a.used a.e (omega arith)

pub returns-in_err-at : goal.returns-in_err-at
returns-in_err-at c =
    let a = c.args in
    let none : c.find.result ≡ None = grind (arith, c.ok_or.ensures.value, c.in_err-at.was) in
    let by : c.from_residual.result ≡ refuse 31 = passed_on _ c.from_residual.ensures.1 ∙ grind (arith, c.ok_or.ensures.value, c.in_err-at.was) in
    subst (Settled a.b.now a.used a.e) (sym by) (is_none a.b.now a.used a.e (sym c.find.ensures ∙ none))

pub returns-then-at-eq-MOST : goal.returns-then-at-eq-MOST
returns-then-at-eq-MOST c = is-full (standing (goal.at.returns-then-at-eq-MOST c).In_ok-at) c.args.e (omega arith)

pub returns-then-not-good_facts : goal.returns-then-not-good_facts
returns-then-not-good_facts c =
    let before = (goal.at.returns-then-not-good_facts c).Else-at-eq-MOST in
    is-bad (standing (goal.at.Else-at-eq-MOST before).In_ok-at) c.args.e (few before) (denied c.good_facts.ensures c.if-not-good_facts.true-raw)

pub returns : goal.returns
returns c =
    let before = (goal.at.returns c).Else-at-eq-MOST in
    (standing (goal.at.Else-at-eq-MOST before).In_ok-at, few before, granted c.good_facts.ensures c.if-not-good_facts.false-raw)
