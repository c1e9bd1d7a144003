-- `printout::channel_lines` meets its contract. Assumes nothing.
use Rattle.printout.proofs.Lines.{Listing}
use Rattle.printout.proofs.channel_lines.Given as goal

abbrev pub invariant-loop-i : goal.invariant-loop-i
invariant-loop-i l = Listing l.s l.at l.initial.out l.start l.out l.end l.i
