-- Which slot. Assumes nothing.
use Rattle.std.specs.Prelude.{◌&&◌, List, [], ◌∷◌, ℕ, suc, if◌then◌else◌, Option, Some, None}
use Rattle.frame.specs.declared.Channel.{Channel}
use Rattle.packet.specs.declared.Application.{Application}
use Rattle.state.specs.declared.Slot.{Slot}
use Rattle.state.specs.declared.Station.{Station}
use Rattle.state.specs.Slots.{held, incomplete, of_pair}

-- the number, counted from k, of the first slot that is not held
unfoldable pub free_from : ℕ → List Slot → Option ℕ
free_from k [] = None
free_from k (x ∷ xs) = if held x then free_from (suc k) xs else Some k

-- "the lowest free slot"
unfoldable pub free_slot : Station → Option ℕ
free_slot s = free_from 0 s.slots

-- the number, counted from k, of the first slot with an incomplete file of the pair
unfoldable pub file_from : ℕ → Channel → Application → List Slot → Option ℕ
file_from k c a [] = None
file_from k c a (x ∷ xs) = if of_pair c a x && incomplete x then Some k else file_from (suc k) c a xs

-- "an incomplete file of the pair": a sound state has at most one
unfoldable pub file_of : Station → Channel → Application → Option ℕ
file_of s c a = file_from 0 c a s.slots
