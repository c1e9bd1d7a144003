use mathlib.Core.Path.{◌≡◌}
use Prim.Native.Nat.{◌-◌, ◌≤◌}
use lib.ListN.{length, drop}
use Rattle.stream.specs.Seek.{sought_in}
use Rattle.stream.proofs.seek.Given as goal

abbrev pub invariant-loop-i : goal.invariant-loop-i
invariant-loop-i l =
    (l.i ≤ length l.portion) × (sought_in l.k l.from l.v (drop l.from l.portion) ≡ sought_in l.k l.i l.four (drop l.i l.portion))

abbrev pub decreases-loop-i : goal.decreases-loop-i
decreases-loop-i l = length l.portion - l.i
