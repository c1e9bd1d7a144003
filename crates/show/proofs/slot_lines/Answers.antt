-- `show::slot_lines` meets its contract. What is written so far, and the lines of the slots that are left, is the whole. Assumes nothing.
use mathlib.Core.Path.{sym}
use native.Mathlib.Omega.{arith}
use borrow.Author.Rules.{rules}
use Rattle.octets.proofs.Lists.{unmap}
use Rattle.show.proofs.Showing.{slotting-none, slotting-room, slotting-line, slotting-skip, slotting-all, slotting-few}
use Rattle.show.proofs.slot_lines.Goals as goal
use Rattle.show.proofs.slot_lines.Goals.{then-not-is_all_zero, else-not-is_all_zero}

pub loop-k-init : goal.loop-k-init
loop-k-init c = slotting-none _ _ _ _ (search (rules, unmap))

pub slot_line-end-requires : goal.slot_line-end-requires
slot_line-end-requires c = (omega arith, omega (arith, slotting-room c.loop-k.invariant (omega arith)))

pub loop-k-preserved : goal.loop-k-preserved
loop-k-preserved c =
    let m = c.loop-k.invariant in
    elim c.if-not-is_all_zero.branch [
      | then-not-is_all_zero w ↦ let line = w.slot_line-end.ensures in
          rw (w.out-is, w.end-is) (slotting-line m (omega arith) (sym w.if-not-is_all_zero.ensures) line.0 (search rules) line.1)
      | else-not-is_all_zero w ↦ rw (w.out-is, w.end-is) (slotting-skip m (omega arith) (sym w.if-not-is_all_zero.ensures))
    ]

pub returns : goal.returns
returns c = (omega (arith, slotting-few c.loop-k.invariant), slotting-all c.loop-k.invariant (omega arith))
