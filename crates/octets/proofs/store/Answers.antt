-- `octets::store` meets its contract. The invariant: what is left of the number, in the octets in front of those stored, gives what is promised.
-- Assumes nothing.
use native.Mathlib.Omega.{arith}
use Rattle.octets.proofs.Storing.{store-more, store-all}
use Rattle.octets.proofs.store.Goals as goal

pub loop-i-preserved : goal.loop-i-preserved
loop-i-preserved c = store-more _ _ _ _ _ (omega arith) c.loop-i.invariant (omega arith) (omega arith)

pub returns : goal.returns
returns c = store-all _ _ _ _ _ (omega arith) c.loop-i.invariant
