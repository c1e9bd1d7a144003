-- `show::slot_lines` meets its contract. What is written so far, and the lines of the slots that are left, is the whole. Assumes nothing.
use Rattle.show.proofs.Showing.{Slotting}
use Rattle.show.proofs.slot_lines.Given as goal

abbrev pub invariant-loop-k : goal.invariant-loop-k
invariant-loop-k l = Slotting l.slots l.table l.initial.out l.at l.out l.end l.k
