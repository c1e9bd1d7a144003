-- `header::judge_records` meets its contract. The invariant: the marks are those of the records before, and the records from here on decide.
-- Assumes nothing.
use Prim.Native.Nat.{◌-◌}
use lib.ListN.{length}
use Rattle.records.specs.Table.{fixed_types}
use Rattle.records.proofs.Marking.{Judging}
use Rattle.header.proofs.judge_records.Given as goal

abbrev pub invariant-loop-at : goal.invariant-loop-at
invariant-loop-at l = Judging fixed_types l.header l.seen l.at

abbrev pub decreases-loop-at : goal.decreases-loop-at
decreases-loop-at l = length l.header - l.at
