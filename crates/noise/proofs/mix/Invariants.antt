-- `noise::mix` meets its contract. The loop's invariant: what is wanted is what the periods that are left make of the buffer.
-- Assumes nothing.
use mathlib.Core.Path.{◌≡◌}
use Prim.Native.Nat.{◌*◌}
use lib.ListN.{drop}
use Rattle.octets.specs.Buffer.{put}
use Rattle.noise.specs.Noise.{mixed_from, mixed}
use Rattle.noise.proofs.mix.Given as goal

abbrev pub invariant-loop-k : goal.invariant-loop-k
invariant-loop-k l = let at = l.k * 255 in mixed l.from ≡ put l.to at (mixed_from at (drop at l.from))
