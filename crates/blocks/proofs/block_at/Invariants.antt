-- `blocks::block_at` meets its contract. The invariant: the place that is still to be reached, among the blocks ahead, gives the block. Assumes
-- nothing.
use Rattle.room.proofs.Find.{Reaching}
use Rattle.blocks.proofs.block_at.Given as goal

abbrev pub invariant-loop-b : goal.invariant-loop-b
invariant-loop-b l = Reaching l.n l.o l.place l.owner l.still l.b
