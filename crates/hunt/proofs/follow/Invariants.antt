-- `hunt::follow` meets its contract. The invariant: what was read is a stream, counted as far as it goes, and the hunter holds what waits of it.
-- The measure is how far it is from a number that no run comes to. Assumes nothing.
use mathlib.Core.Path.{◌≡◌}
use Prim.Native.Nat.{◌-◌, ◌≤◌}
use lib.ListN.{length}
use Rattle.hunt.proofs.Counting.{Following}
use Rattle.hunt.proofs.follow.Given as goal

abbrev pub invariant-loop-all : goal.invariant-loop-all
invariant-loop-all l = Following l.initial.t.k l.t l.all × (length l.input ≡ 65536) × (length l.unit ≡ 1024) × (l.all.read ≤ 0x4000000000010000)

abbrev pub decreases-loop-all : goal.decreases-loop-all
decreases-loop-all l = 0x4000000000000000 - l.all.read
