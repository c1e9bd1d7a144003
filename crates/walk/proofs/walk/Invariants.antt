-- `walk::walk` judges packets one after the other: each is decided and then done. The loop's invariant says that what is still to be done
-- gives what was wanted; the measure is what is left of the zone. Assumes nothing.
use Prim.Native.Nat.{◌-◌}
use lib.ListN.{length}
use Rattle.state.specs.Slots.{station_of}
use Rattle.zone.proofs.Turns.{Walking}
use Rattle.walk.proofs.walk.Given as goal

abbrev pub invariant-loop-bad : goal.invariant-loop-bad
invariant-loop-bad l =
    Walking l.channel (station_of l.head l.initial.owner l.initial.kept) l.zone l.from l.initial.store l.n l.initial.list (station_of l.head l.owner l.kept) l.store l.list l.events l.at

abbrev pub decreases-loop-bad : goal.decreases-loop-bad
decreases-loop-bad l = length l.zone - l.at
