-- `watch` meets its contract: the constructor takes each of the good channels. The loop's invariant: the channels stored so far, those from place i
-- on, and what stands behind them all are what is wanted. Assumes nothing.
use mathlib.Core.Path.{◌≡◌}
use mathlib.Core.List.{◌++◌, map}
use Prim.Native.Nat.{◌-◌, ◌≤◌}
use lib.ListN.{length, take, drop, replicate}
use Rattle.station.specs.SetUp.{channel_of}
use Rattle.station.proofs.watch.Given as goal

abbrev pub invariant-loop-i : goal.invariant-loop-i
invariant-loop-i l =
    (length l.channels ≤ 8) × (length l.watched ≡ 8)
    × (map channel_of l.channels ++ replicate (8 - length l.channels) (channel_of 0)
    ≡ take l.i l.watched ++ map channel_of (drop l.i l.channels) ++ drop (length l.channels) l.watched)
