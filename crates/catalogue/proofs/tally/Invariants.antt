use Rattle.catalogue.proofs.Counting.{Tallying}
use Rattle.catalogue.proofs.tally.Given as goal

abbrev pub invariant-loop-i : goal.invariant-loop-i
invariant-loop-i l = Tallying l.s l.at l.n l.counts l.i
