-- `blocks::move_blocks` meets its contract. The invariant: what is left to move, from the table as it is, gives the table promised. Assumes nothing.
use Rattle.room.proofs.Given.{Moving}
use Rattle.blocks.proofs.move_blocks.Given as goal

abbrev pub invariant-loop-b : goal.invariant-loop-b
invariant-loop-b l = Moving l.n l.from l.to l.count l.initial.owner l.owner l.left l.b
