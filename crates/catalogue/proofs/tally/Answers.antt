use Prim.Native.Nat.{◌+◌, ◌*◌}
use native.Mathlib.Omega.{arith}
use lib.ListN.{get_or}
use Rattle.catalogue.proofs.Counting.{tallying, tally-low, tally-more, tally-end}
use Rattle.catalogue.proofs.tally.Goals as goal

pub loop-i-init : goal.loop-i-init
loop-i-init c = tallying _ _ _ (omega arith) (omega arith) c.requires.2

pub bounds-counts-c : goal.bounds-counts-c
bounds-counts-c c = omega (arith, tally-low c.loop-i.invariant (omega arith))

pub overflow_add-counts : goal.overflow_add-counts
overflow_add-counts c = omega (arith, c.loop-i.invariant.small (get_or c.args.s.now (c.args.at + c.loop-i.i * 14) 0))

pub bounds-counts-c-in-loop-i : goal.bounds-counts-c-in-loop-i
bounds-counts-c-in-loop-i c = omega (arith, tally-low c.loop-i.invariant (omega arith))

pub loop-i-preserved : goal.loop-i-preserved
loop-i-preserved c = tally-more c.loop-i.invariant (omega arith)

pub returns : goal.returns
returns c = tally-end c.loop-i.invariant (omega arith)
