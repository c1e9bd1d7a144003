-- `hunt::feed` meets its contract. The invariant: the frames found, with what the rest of the portion is still to give, are what the portion gives.
-- The measure is that rest, of which a call that found a frame took some. Assumes nothing.
use mathlib.Core.Path.{◌≡◌}
use Prim.Native.Nat.{◌-◌}
use lib.ListN.{length}
use Rattle.hunt.proofs.Portions.{Going}
use Rattle.hunt.proofs.feed.Given as goal

abbrev pub invariant-loop-output : goal.invariant-loop-output
invariant-loop-output l = Going l.initial.t l.portion l.initial.unit l.unit l.t l.at l.frames × (length l.unit ≡ length l.initial.unit) × (length l.t.octets ≡ 1024)

abbrev pub decreases-loop-output : goal.decreases-loop-output
decreases-loop-output l = length l.portion - l.at
