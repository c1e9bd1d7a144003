-- `noise::mix_period` meets its contract. The loop's invariant: what is wanted is what the stores that are left make of the buffer.
-- Assumes nothing.
use mathlib.Core.Path.{◌≡◌}
use Prim.Native.Nat.{◌+◌}
use lib.ListN.{drop}
use Rattle.octets.specs.Number.{part}
use Rattle.octets.specs.Buffer.{put}
use Rattle.noise.specs.Noise.{xored}
use Rattle.noise.proofs.mix_period.Given as goal

abbrev pub invariant-loop-j : goal.invariant-loop-j
invariant-loop-j l =
    let wanted = xored (part l.at 255 l.from) l.table in put l.initial.to l.at wanted ≡ put l.to (l.at + l.j) (drop l.j wanted)
