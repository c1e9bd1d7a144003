-- `octets::rounded_up` meets its contract. Assumes nothing.
use native.Mathlib.Omega.{arith}
use Rattle.octets.proofs.Numbers.{rounded-only}
use Rattle.octets.proofs.rounded_up.Goals as goal

pub returns : goal.returns
returns c = (rounded-only _ _ (omega arith) (omega arith), omega arith)
