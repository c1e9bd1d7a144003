-- `header::find_record` meets its contract. The invariant: the records from here on, at the number that is left, give what was sought.
-- Assumes nothing.
use mathlib.Core.List.{List}
use Prim.Native.Nat.{◌-◌}
use lib.ListN.{length}
use Rattle.records.specs.Records.{records, nth}
use Rattle.records.specs.declared.Record.{Record}
use Rattle.records.proofs.Walk.{Going}
use Rattle.header.proofs.find_record.Given as goal

abbrev pub invariant-loop-at : goal.invariant-loop-at
invariant-loop-at l = Going l.header (nth (records l.header) l.n) (λ (rs : List Record). nth rs l.left) l.at

abbrev pub decreases-loop-at : goal.decreases-loop-at
decreases-loop-at l = length l.header - l.at
