-- `tally_block` meets its contract, by the law of one block more. Assumes nothing.
use mathlib.Core.Path.{refl}
use Prim.Native.Nat.{◌<◌}
use native.Mathlib.Omega.{arith}
use lib.ListN.{get_or}
use Rattle.owners.proofs.Counts.{Tallied, tallied-more, tallied-few}
use Rattle.owners.proofs.tally_block.Goals as goal
use Rattle.owners.proofs.tally_block.Goals.{Start}

-- the block's owner
low : (c : Start) → get_or c.args.owner.now c.args.b 0 < 256
low c = omega (arith, c.type_inv.owner c.args.b)

-- the tally so far
so_far : (c : Start) → Tallied c.args.owner.now c.args.b c.args.tally.now
so_far c = record { all = c.requires.b_bound.2; each-octet = c.requires.tallies }

pub overflow_add-tally : goal.overflow_add-tally
overflow_add-tally c = omega (arith, tallied-few (so_far (goal.at.overflow_add-tally c).Start) (omega arith) _ (low (goal.at.overflow_add-tally c).Start))

pub returns : goal.returns
returns c = (tallied-more (so_far (goal.at.returns c).Start) (omega arith) _ refl (low (goal.at.returns c).Start)).each-octet
