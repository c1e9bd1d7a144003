-- `Ended::line` meets its contract. Assumes nothing.
use native.Mathlib.Omega.{arith}
use Rattle.script.proofs.whole.Ended.line.Goals as goal

pub returns : goal.returns
returns c = (omega (arith, c.end_line.ensures.0), c.end_line.ensures.1)
