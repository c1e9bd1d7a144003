-- `pages::copy_out` meets its contract. The invariant: what is left to copy, put behind what was copied, gives the buffer promised; and the
-- blocks ahead have the octets that are still wanted. Assumes nothing.
use Rattle.pages.proofs.Copying.{Copying}
use Rattle.pages.proofs.copy_out.Given as goal

abbrev pub invariant-loop-b : goal.invariant-loop-b
invariant-loop-b l = Copying l.owner l.n l.o l.store l.from l.initial.buffer l.buffer l.skip l.done l.b
