-- `vectors::digits::decode` meets its contract. The invariant: the octets so far stand in front of those of the digits that are left. Assumes nothing.
use mathlib.Core.Path.{◌≡◌}
use lib.ListN.{length}
use Rattle.vectors.proofs.Decoding.{Decoding}
use Rattle.vectors.proofs.digits.decode.Given as goal

abbrev pub invariant-loop-i : goal.invariant-loop-i
invariant-loop-i l = (length l.asked ≡ length l.initial.asked) × Decoding l.digits l.asked l.i
