-- `good_channels` meets its contract. The loop's invariant: the channels are distinct and 0 to 62 exactly if those from place i on are.
-- Assumes nothing.
use Prim.Native.Nat.{ℕ}
use lib.ListN.{length}
use Rattle.state.specs.Decision.{distinct_channels}
use Rattle.state.proofs.Walk.{Left}
use Rattle.channels.proofs.good_channels.Given as goal

abbrev pub invariant-loop-i : goal.invariant-loop-i
invariant-loop-i l = Left (λ (j : ℕ). distinct_channels) (distinct_channels l.channels) (length l.channels) l.channels l.i
