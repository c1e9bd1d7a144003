-- `vectors::answers::shape_answer` meets its contract, by the range of its flags and counts. Assumes nothing.
use mathlib.Core.Path.{sym, ◌∙◌}
use Prim.Native.Nat.{◌<◌}
use native.Mathlib.Omega.{arith}
use lib.ListN.{length}
use borrow.Author.Tests.{eq-eqb, ne_eqb}
use Rattle.vectors.proofs.Checks.{flags-over, last-over, count-over, in-range}
use Rattle.vectors.proofs.answers.shape_answer.Goals as goal

pub returns-then-q-ne17 : goal.returns-then-q-ne17
returns-then-q-ne17 c = rw (ne_eqb _ _ c.if-q-ne17.true) c.refusal.ensures

pub returns-then-q-gt3 : goal.returns-then-q-gt3
returns-then-q-gt3 c =
    let q = c.args.q.now in
    let some : 0 < length q = omega arith in
    rw (eq-eqb _ _ c.if-q-ne17.false, ← flags-over q some c.if-q-gt3.true) c.refusal-then-q-gt3.ensures

pub returns-in_default : goal.returns-in_default
returns-in_default c =
    let q = c.args.q.now in
    let some : 0 < length q = omega arith in
    rw (
      eq-eqb _ _ c.if-q-ne17.false,
      ← last-over q some c.if-q-gt3.false
          (rw c.u16_at.ensures at (sym c.checked.ensures ∙ c.in_default.is)),
    )
    c.refusal-in_default.ensures

pub returns-in_default-checked : goal.returns-in_default-checked
returns-in_default-checked c =
    let q =
    c.args.q.now in
    let some : 0 < length q = omega arith in
    rw (
      eq-eqb _ _ c.if-q-ne17.false,
      ← count-over q some c.if-q-gt3.false
          (rw c.u16_at.ensures at (sym c.checked.ensures ∙ c.in-Some.is))
          (rw c.u16_at-2.ensures at (sym c.checked-2.ensures ∙ c.in_default-checked.is)),
    )
    c.refusal-in_default-checked.ensures

pub returns : goal.returns
returns c =
    let q =
    c.args.q.now in
    let some : 0 < length q = omega arith in
    rw (
      eq-eqb _ _ c.if-q-ne17.false,
      ← in-range q some c.if-q-gt3.false
          (rw c.u16_at.ensures at (sym c.checked.ensures ∙ c.in-Some.is))
          (rw c.u16_at-2.ensures at (sym c.checked-2.ensures ∙ c.in-Some-checked.is)),
    )
    c.fit_answer.ensures
