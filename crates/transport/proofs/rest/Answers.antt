-- `transport::rest` meets its contract: the blocks before the last hold less than the whole. Assumes nothing.
use Prim.Native.Nat.{◌+◌, ◌*◌, ◌≤◌, ◌<◌}
use native.Mathlib.Omega.{arith}
use borrow.Author.Rules.{rules}
use Rattle.transport.specs.Length.{rest}
use Rattle.transport.proofs.Length.{need-one, need-least}
use Rattle.transport.proofs.rest.Goals as goal
use Rattle.transport.proofs.rest.Goals.{After-need}

few : (c : After-need) → (1 ≤ c.need.result) × (8190 * c.need.result < c.transport_size.result + 8190)
few c = omega (arith, need-one c.args.bits, need-least c.args.bits)

pub overflow_sub-result : goal.overflow_sub-result
overflow_sub-result c = omega (arith, few c)

pub overflow_mul-result : goal.overflow_mul-result
overflow_mul-result c = omega (arith, few c)

pub overflow_sub-result-2 : goal.overflow_sub-result-2
overflow_sub-result-2 c = omega (arith, few c)

pub returns : goal.returns
unfolding rest
returns c = search rules
