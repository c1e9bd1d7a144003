-- `room::needs` meets its contract. A need is below 2^49, as the length in a slot is below 2^64, so 32 of them cannot wrap. Assumes nothing.
use mathlib.Core.Path.{sym}
use Prim.Native.Nat.{◌^◌, ◌<◌}
use native.Mathlib.Omega.{arith}
use borrow.Author.Rules.{rules}
use lib.ListN.{get_or}
use Rattle.octets.proofs.Lists.{unmap}
use Rattle.transport.proofs.Length.{need-small}
use Rattle.state.specs.Slots.{no_file, need_of}
use Rattle.state.proofs.Fits.{bits_fit}
use Rattle.room.proofs.Find.{summing-first, summing-held, summing-free, summing-all}
use Rattle.room.proofs.needs.Goals as goal
use Rattle.room.proofs.needs.Goals.{In-loop-x, then-is_held, else-is_held}

small : (c : In-loop-x) → need_of (get_or c.args.slots c.loop-x.x-index no_file) < 2 ^ 49
small c = need-small _ (bits_fit c.args.slots _ c.loop-x.x-index c.well_formed.0.1.1)

pub loop-x-init : goal.loop-x-init
loop-x-init c = summing-first _ (search (rules, unmap))

pub overflow_add-sum : goal.overflow_add-sum
overflow_add-sum c = omega (arith, c.loop-x.invariant.small, c.need-sum.ensures, small (goal.at.overflow_add-sum c).In-loop-x)

pub loop-x-preserved : goal.loop-x-preserved
loop-x-preserved c =
    let m = c.loop-x.invariant in
    let n = small (goal.at.loop-x-preserved c).In-loop-x in
    elim c.if-is_held.branch [
      | then-is_held w ↦ rw w.sum-is (summing-held m (omega arith) (sym w.if-is_held.ensures) w.need-sum.ensures (rw w.need-sum.ensures n))
      | else-is_held w ↦ rw w.sum-is (summing-free m (omega arith) (sym w.if-is_held.ensures))
    ]

pub returns : goal.returns
returns c = summing-all c.loop-x.invariant (omega arith)
