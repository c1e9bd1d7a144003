-- `printout::file_lines` meets its contract. Assumes nothing.
use Rattle.printout.proofs.Lines.{Filing}
use Rattle.printout.proofs.file_lines.Given as goal

abbrev pub invariant-loop-i : goal.invariant-loop-i
invariant-loop-i l = Filing l.s l.at l.initial.out l.out l.end l.i l.j
