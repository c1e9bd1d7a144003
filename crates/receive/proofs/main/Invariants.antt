-- `receive::main` is safe: the buffers keep their lengths. Assumes nothing.
use mathlib.Core.Path.{◌≡◌}
use lib.ListN.{length}
use Rattle.receive.proofs.main.Given as goal

abbrev pub invariant-loop-frames : goal.invariant-loop-frames
invariant-loop-frames l = (length l.desks ≡ 32792) × (length l.store ≡ 57330) × (length l.list ≡ 900) × (length l.out ≡ 19565) × (length l.unit ≡ 1024)
