-- `noise::mix_period` meets its contract. The loop's invariant: what is wanted is what the stores that are left make of the buffer.
-- Assumes nothing.
use mathlib.Core.Path.{refl}
use native.Mathlib.Omega.{arith}
use Rattle.octets.proofs.Put.{copy-none}
use Rattle.noise.proofs.Mixing.{period-more, period-all}
use Rattle.noise.proofs.mix_period.Goals as goal

pub loop-j-init : goal.loop-j-init
loop-j-init c = copy-none _ _ _ _ refl

pub loop-j-preserved : goal.loop-j-preserved
loop-j-preserved c = period-more _ _ _ (omega arith) (omega arith) _ _ _ (omega arith) c.loop-j.invariant

pub returns : goal.returns
returns c = period-all _ _ _ (omega arith) (omega arith) _ _ _ (omega arith) c.loop-j.invariant
