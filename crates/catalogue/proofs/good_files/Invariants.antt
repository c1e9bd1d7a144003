use Rattle.catalogue.proofs.Walks.{Filing}
use Rattle.catalogue.proofs.good_files.Given as goal

abbrev pub invariant-loop-i : goal.invariant-loop-i
invariant-loop-i l = Filing l.s l.at l.n l.i
