use native.Mathlib.Omega.{arith}
use Rattle.stream.proofs.Stretches.{quiet-more, quiet-end}
use Rattle.stream.proofs.is_quiet.Goals as goal

pub loop-x-preserved : goal.loop-x-preserved
loop-x-preserved c = quiet-more c.args.s.now _ c.loop-x.any c.loop-x.x-index c.loop-x.invariant (omega arith)

pub returns : goal.returns
returns c = quiet-end c.args.s.now _ c.loop-x.any c.loop-x.x-index c.loop-x.invariant (omega arith)
