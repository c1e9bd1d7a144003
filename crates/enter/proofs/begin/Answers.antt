-- `enter::begin` meets its contract: six zeros, or 34. Assumes nothing.
use native.Mathlib.Omega.{arith}
use Rattle.enter.proofs.Filing.{not-begun, is-begun}
use Rattle.enter.proofs.begin.Goals as goal

pub returns-then-buffer-lt6 : goal.returns-then-buffer-lt6
returns-then-buffer-lt6 c = not-begun _ (omega arith)

pub returns : goal.returns
returns c = is-begun _ (omega arith) c.blank.ensures
