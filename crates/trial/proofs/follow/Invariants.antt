-- `trial::follow` is safe: no more is lent than there is, and the buffers keep their lengths. Assumes nothing.
use mathlib.Core.Path.{◌≡◌}
use Prim.Native.Nat.{◌≤◌}
use lib.ListN.{length}
use Rattle.trial.proofs.follow.Given as goal

abbrev pub invariant-loop-n : goal.invariant-loop-n
invariant-loop-n l =
    (length l.payload ≡ 2048) × (length l.desks ≡ length l.initial.desks) × (length l.store ≡ length l.initial.store) × (length l.out ≡ 90844) × (l.w.desks ≤ length l.initial.desks) × (l.w.store ≤ length l.initial.store)
