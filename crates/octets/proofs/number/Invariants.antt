-- `octets::number` meets its contract. The invariant: the number read so far is the one in the octets passed, and has eight bits for each.
-- Assumes nothing.
use mathlib.Core.Path.{◌≡◌}
use Prim.Native.Nat.{◌*◌, ◌^◌, ◌<◌}
use Rattle.octets.specs.Number.{number_at}
use Rattle.octets.proofs.number.Given as goal

abbrev pub invariant-loop-x : goal.invariant-loop-x
invariant-loop-x l = (l.v < 2 ^ (8 * l.x-index)) × (l.v ≡ number_at l.s l.at l.x-index)
