-- `transport::begin` meets its contract: nothing by each of its tests, and what the shape decides. Assumes nothing.
use Rattle.std.specs.Prelude.{if◌then◌else◌, Bool, true, false, Some, None}
use Rattle.std.specs.Bool.{then_some}
use mathlib.Core.Path.{◌≡◌, refl, sym, ◌∙◌}
use native.Mathlib.Omega.{arith}
use Rattle.octets.proofs.Tests.{tests}
use Rattle.transport.specs.Shape.{begun_of}
use Rattle.transport.proofs.Begins.{length-wrong, shape-decides}
use Rattle.transport.proofs.begin.Goals as goal
use Rattle.transport.proofs.begin.Goals.{in-1, in-3, in_default}

chosen : {A : Type 0} (b : Bool) (x : A) → then_some b x ≡ (if b then Some x else None)
chosen true x = refl
chosen false x = refl

pub returns-then-data-lt-HEADER : goal.returns-then-data-lt-HEADER
unfolding begun_of
returns-then-data-lt-HEADER c = search tests

pub returns-then-not-good_length : goal.returns-then-not-good_length
returns-then-not-good_length c = length-wrong _ _ (omega arith) c.read-t.ensures (sym c.if-not-good_length.ensures)

pub returns : goal.returns
returns c =
    c.then_some.ensures ∙ chosen _ _
    ∙ shape-decides _ (record { long = omega arith; is = c.read-t.ensures; good = sym c.if-not-good_length.ensures }) c.match-flags.shaped
    (elim c.match-flags.branch [
      | in-1 w ↦ grind (arith, w.in-1.is, w.shaped-is, w.first_fits-shaped.ensures)
      | in-3 w ↦ grind (arith, w.in-3.is, w.shaped-is, w.whole_fits-shaped.ensures)
      | in_default w ↦ grind (arith, w.shaped-is)
    ])
