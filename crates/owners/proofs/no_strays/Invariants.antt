-- `no_strays` meets its contract. The invariant: the tally from 33 on is blank exactly if the "or" so far is 0 and what is left is blank.
-- Assumes nothing.
use mathlib.Core.Path.{◌≡◌}
use mathlib.Core.Bool.{◌&&◌}
use Prim.Native.Nat.{◌-◌}
use lib.Dec.{eqb}
use Rattle.octets.specs.Number.{part}
use Rattle.octets.specs.Buffer.{all_zero}
use Rattle.owners.proofs.no_strays.Given as goal

abbrev pub invariant-loop-o : goal.invariant-loop-o
invariant-loop-o l = all_zero (part 33 223 l.tally) ≡ (eqb l.any 0 && all_zero (part l.o (256 - l.o) l.tally))
