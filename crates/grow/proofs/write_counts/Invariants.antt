-- `grow::write_counts` meets its contract: the loop writes each channel that has files. Assumes nothing.
use Rattle.grow.proofs.Writing.{Noting}
use Rattle.grow.proofs.write_counts.Given as goal

abbrev pub invariant-loop-c : goal.invariant-loop-c
invariant-loop-c l = Noting 63 l.at l.counts l.initial.dst l.dst l.c l.p
