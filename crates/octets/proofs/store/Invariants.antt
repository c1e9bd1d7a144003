-- `octets::store` meets its contract. The invariant: what is left of the number, in the octets in front of those stored, gives what is promised.
-- Assumes nothing.
use mathlib.Core.Path.{◌≡◌}
use Rattle.octets.specs.Buffer.{put}
use Rattle.octets.specs.Number.{in_octets}
use Rattle.octets.proofs.store.Given as goal

abbrev pub invariant-loop-i : goal.invariant-loop-i
invariant-loop-i l = put l.initial.dst l.at (in_octets l.w l.v) ≡ put l.dst l.at (in_octets l.i l.left)
