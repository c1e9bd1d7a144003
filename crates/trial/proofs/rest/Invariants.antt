-- `trial::rest` is safe and ends. The measure is how far it is from a number that no run comes to. Assumes nothing.
use mathlib.Core.Path.{◌≡◌}
use Prim.Native.Nat.{◌-◌, ◌≤◌}
use lib.ListN.{length}
use Rattle.trial.proofs.rest.Given as goal

abbrev pub invariant-loop-n : goal.invariant-loop-n
invariant-loop-n l = (length l.came ≡ 65536) × (l.n ≤ 0x4000000000010000)

abbrev pub decreases-loop-n : goal.decreases-loop-n
decreases-loop-n l = 0x4000000000000000 - l.n
