-- `zeros::run_zero` meets its contract. The invariant: the stretch is blank exactly if the "or" so far is 0 and what is left is blank. Assumes nothing.
use Prim.Native.Nat.{◌-◌}
use native.Mathlib.Omega.{arith}
use Rattle.octets.specs.Number.{part}
use Rattle.octets.proofs.Zero.{gathered-more, gathered-all}
use Rattle.zeros.proofs.run_zero.Goals as goal

pub loop-x-preserved : goal.loop-x-preserved
loop-x-preserved c = gathered-more _ _ c.loop-x.any _ c.loop-x.invariant c.loop-x-test.true

pub returns : goal.returns
returns c =
    let a = c.args in
    gathered-all (part a.from (a.to - a.from) a.s.now) _ c.loop-x.any c.loop-x.x-index c.loop-x.invariant (omega arith)
