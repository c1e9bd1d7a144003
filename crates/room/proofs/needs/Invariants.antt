-- `room::needs` meets its contract. The invariant: the sum and the needs of what is left give the whole. A need is below 2^49, as the length
-- in a slot is below 2^64, so 32 of them cannot wrap. Assumes nothing.
use Rattle.room.proofs.Find.{Summing}
use Rattle.room.proofs.needs.Given as goal

abbrev pub invariant-loop-x : goal.invariant-loop-x
invariant-loop-x l = Summing l.fn.slots l.sum l.x-index
