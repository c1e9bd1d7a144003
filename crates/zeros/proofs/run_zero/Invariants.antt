-- `zeros::run_zero` meets its contract. The invariant: the stretch is blank exactly if the "or" so far is 0 and what is left is blank. Assumes nothing.
use mathlib.Core.Path.{◌≡◌}
use mathlib.Core.Bool.{◌&&◌}
use Prim.Native.Nat.{◌-◌}
use lib.Dec.{eqb}
use lib.ListN.{drop}
use Rattle.octets.specs.Number.{part}
use Rattle.octets.specs.Buffer.{all_zero}
use Rattle.zeros.proofs.run_zero.Given as goal

abbrev pub invariant-loop-x : goal.invariant-loop-x
invariant-loop-x l = let s = part l.from (l.to - l.from) l.s in all_zero s ≡ (eqb l.any 0 && all_zero (drop l.x-index s))
