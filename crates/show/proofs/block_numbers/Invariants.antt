-- `show::block_numbers` meets its contract. What is written so far, and the numbers in the rest of the table, is the whole. Assumes nothing.
use Rattle.show.proofs.Showing.{Numbering}
use Rattle.show.proofs.block_numbers.Given as goal

abbrev pub invariant-loop-i : goal.invariant-loop-i
invariant-loop-i l = Numbering l.owner l.table l.initial.out l.at l.out l.end l.i
