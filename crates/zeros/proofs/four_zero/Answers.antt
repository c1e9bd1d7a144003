-- `four_zero` meets its contract. The invariant: the stretches are blank exactly if the "or" so far is 0 and what is left of each is blank.
-- Assumes nothing.
use mathlib.Core.Path.{refl}
use native.Mathlib.Omega.{arith}
use Rattle.octets.proofs.Zero.{four-more, four-all}
use Rattle.zeros.proofs.four_zero.Goals as goal

pub loop-i-init : goal.loop-i-init
loop-i-init c = refl

pub loop-i-preserved : goal.loop-i-preserved
loop-i-preserved c =
    let a = c.args in
    four-more a.a.now a.b.now a.c.now a.d.now _ c.loop-i.any _ c.loop-i.invariant (omega arith) (omega arith) (omega arith)
    (omega arith)

pub returns : goal.returns
returns c =
    let a = c.args in
    let l = c.loop-i in
    four-all a.a.now a.b.now a.c.now a.d.now _ l.any l.i l.invariant (omega arith) (omega arith) (omega arith)
    (omega arith)
