use Rattle.catalogue.proofs.Walks.{Indexing}
use Rattle.catalogue.proofs.rising_images.Given as goal

abbrev pub invariant-loop-i : goal.invariant-loop-i
invariant-loop-i l = Indexing l.s l.at l.m l.n l.i l.least
