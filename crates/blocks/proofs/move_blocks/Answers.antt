-- `blocks::move_blocks` meets its contract. The invariant: what is left to move, from the table as it is, gives the table promised. Assumes nothing.
use native.Mathlib.Omega.{arith}
use Rattle.room.proofs.Given.{moving-first, moving-on, moving-past, moving-none, moving-all}
use Rattle.blocks.proofs.move_blocks.Goals as goal
use Rattle.blocks.proofs.move_blocks.Goals.{then-owner-b, else-owner-b}

pub loop-b-init : goal.loop-b-init
loop-b-init c = moving-first _ _ _ _ _ 4096 c.requires.1 c.requires.0

pub returns-then-left-eq0 : goal.returns-then-left-eq0
returns-then-left-eq0 c = moving-none c.loop-b.invariant (omega arith)

pub loop-b-preserved : goal.loop-b-preserved
loop-b-preserved c =
    let m = c.loop-b.invariant in
    elim c.if-owner-b.branch [
      | then-owner-b w ↦ rw (w.owner-is, w.left-is) (moving-on m (omega arith) (omega arith) w.if-owner-b.true)
      | else-owner-b w ↦ rw (w.owner-is, w.left-is) (moving-past m (omega arith) w.if-owner-b.false)
    ]

pub returns : goal.returns
returns c = moving-all c.loop-b.invariant (omega arith)
