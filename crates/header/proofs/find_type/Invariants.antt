-- `header::find_type` meets its contract. The invariant: the records from here on give what was sought. Assumes nothing.
use Prim.Native.Nat.{◌-◌}
use lib.ListN.{length}
use Rattle.records.specs.Records.{records, place_of}
use Rattle.records.proofs.Walk.{Going}
use Rattle.header.proofs.find_type.Given as goal

abbrev pub invariant-loop-at : goal.invariant-loop-at
invariant-loop-at l = Going l.header (place_of l.kind (records l.header)) (place_of l.kind) l.at

abbrev pub decreases-loop-at : goal.decreases-loop-at
decreases-loop-at l = length l.header - l.at
