use Rattle.catalogue.proofs.Counting.{Comparing}
use Rattle.catalogue.proofs.true_channels.Given as goal

abbrev pub invariant-loop-c : goal.invariant-loop-c
invariant-loop-c l = Comparing 63 l.s l.at l.k l.counts l.c l.j
