use native.Mathlib.Omega.{arith}
use Rattle.stream.proofs.Stretches.{stretch-found, stretch-more}
use Rattle.stream.proofs.seek.Goals as goal

pub returns-in-At : goal.returns-in-At
returns-in-At c =
    let a = c.args in
    stretch-found a.portion.now a.k c.loop-i.i c.loop-i.four c.loop-i.invariant.1 16 (omega arith) c.leap.ensures _ _ c.in-At.is

pub loop-i-preserved : goal.loop-i-preserved
loop-i-preserved c =
    let a = c.args in
    (omega arith, stretch-more a.portion.now a.k c.loop-i.i c.loop-i.four c.loop-i.invariant.1 16 (omega arith) c.leap.ensures _ c.in-Nowhere.is)
