-- `blocks::block_at` meets its contract. The invariant: the place that is still to be reached, among the blocks ahead, gives the block. Assumes
-- nothing.
use native.Mathlib.Omega.{arith}
use borrow.Author.Rules.{rules}
use Rattle.room.proofs.Find.{reaching-first, reaching-on, reaching-past, reaching-here, reaching-none}
use Rattle.blocks.proofs.block_at.Goals as goal
use Rattle.blocks.proofs.block_at.Goals.{then-owner-b+else-still-eq0, else-owner-b}

pub loop-b-init : goal.loop-b-init
loop-b-init c = reaching-first _ _ _ _ (search rules)

pub returns-then-still-eq0 : goal.returns-then-still-eq0
returns-then-still-eq0 c = reaching-here c.loop-b.invariant (omega arith) (omega arith) (omega arith)

pub loop-b-preserved : goal.loop-b-preserved
loop-b-preserved c =
    let m = c.loop-b.invariant in
    elim c.if-owner-b.branch [
      | then-owner-b+else-still-eq0 w ↦ rw w.still-is (reaching-on m (omega arith) (omega arith) (omega arith))
      | else-owner-b w ↦ rw w.still-is (reaching-past m (omega arith) w.if-owner-b.false)
    ]

pub returns : goal.returns
returns c = reaching-none c.loop-b.invariant (omega arith)
