use mathlib.Core.Path.{◌≡◌}
use Prim.Native.Nat.{◌-◌}
use Rattle.octets.specs.Number.{part}
use Rattle.stream.specs.Seek.{sought_in}
use Rattle.stream.proofs.scan.Given as goal

abbrev pub invariant-loop-i : goal.invariant-loop-i
invariant-loop-i l =
    sought_in l.k l.from l.v (part l.from (l.to - l.from) l.portion) ≡ sought_in l.k l.i l.four (part l.i (l.to - l.i) l.portion)
