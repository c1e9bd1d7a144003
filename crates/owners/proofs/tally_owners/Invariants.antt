-- `tally_owners` meets its contract. The loop's invariant: the tally is right for the first b blocks. Assumes nothing.
use Rattle.owners.proofs.Counts.{Tallied}
use Rattle.owners.proofs.tally_owners.Given as goal

abbrev pub invariant-loop-b : goal.invariant-loop-b
invariant-loop-b l = Tallied l.owner l.b l.tally
