-- `slots_sound` meets its contract. The loop's invariant: all slots are sound, no two of them twins, exactly if it is so from number k on.
-- Assumes nothing.
use mathlib.Core.Path.{◌≡◌}
use mathlib.Core.Bool.{◌&&◌}
use mathlib.Core.List.{List}
use Prim.Native.Nat.{ℕ}
use lib.ListN.{length, drop}
use Rattle.state.specs.declared.Slot.{Slot}
use Rattle.state.specs.Decision.{slots_sound, no_twins}
use Rattle.state.proofs.Walk.{Left}
use Rattle.slots.proofs.slots_sound.Given as goal

-- slots from number k on are left
abbrev pub Walks : List ℕ → List ℕ → List Slot → ℕ → Type 0
Walks channels counts slots k =
    (length counts ≡ 32)
    × Left (λ (j : ℕ) (xs : List Slot). slots_sound channels (drop j counts) xs && no_twins xs) (slots_sound channels counts slots && no_twins slots) 32 slots k

abbrev pub invariant-loop-k : goal.invariant-loop-k
invariant-loop-k l = Walks l.channels l.counts l.fn.slots l.k
