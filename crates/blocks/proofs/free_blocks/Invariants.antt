-- `blocks::free_blocks` meets its contract. The invariant: what is left to free, in the table as it is, gives the table promised. Assumes nothing.
use Rattle.room.proofs.Given.{Freeing}
use Rattle.blocks.proofs.free_blocks.Given as goal

abbrev pub invariant-loop-b : goal.invariant-loop-b
invariant-loop-b l = Freeing l.n l.from l.initial.owner l.owner l.b
