-- `act::write` meets its contract: the block at a place that the slot has is one of the store, so that the data fits. Assumes nothing.
use Prim.Native.Nat.{◌<◌}
use native.Mathlib.Omega.{arith}
use Rattle.act.proofs.Writing.{block-low}
use Rattle.act.proofs.write.Goals as goal
use Rattle.act.proofs.write.Goals.{After-block_at-b}

low : (c : After-block_at-b) → c.block_at-b.result < c.args.blocks
low c =
    block-low c.args.owner.now c.args.blocks c.args.k c.args.place c.block_at-b.ensures c.requires.place_in_bounds.0

pub overflow_mul-b : goal.overflow_mul-b
overflow_mul-b c = omega (arith, low (goal.at.overflow_mul-b c).After-block_at-b)

pub copy-requires : goal.copy-requires
copy-requires c = omega (arith, low (goal.at.copy-requires c).After-block_at-b)
