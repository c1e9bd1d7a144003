-- `four_zero` meets its contract. The invariant: the stretches are blank exactly if the "or" so far is 0 and what is left of each is blank.
-- Assumes nothing.
use mathlib.Core.Path.{◌≡◌}
use mathlib.Core.Bool.{◌&&◌}
use lib.Dec.{eqb}
use lib.ListN.{drop}
use Rattle.octets.specs.Buffer.{four_zero}
use Rattle.zeros.proofs.four_zero.Given as goal

abbrev pub invariant-loop-i : goal.invariant-loop-i
invariant-loop-i l = four_zero l.a l.b l.c l.d ≡ (eqb l.any 0 && four_zero (drop l.i l.a) (drop l.i l.b) (drop l.i l.c) (drop l.i l.d))
