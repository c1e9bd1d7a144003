-- What becomes of a file by what happens after its first packet ("Packets", the two rules for a file). Only the slot that holds the file
-- and the thing that happens are looked at: no store, no block, no other slot. Assumes nothing.
use Rattle.std.specs.Prelude.{Bool, not, ◌&&◌, ◌||◌, List, [], ◌∷◌, ℕ, leb, eqb, if◌then◌else◌}
use Rattle.frame.specs.declared.Channel.{Channel}
use Rattle.packet.specs.Header.{packet_of}
use Rattle.state.specs.declared.Slot.{Slot}
use Rattle.state.specs.Slots.{incomplete, of_pair}
use Rattle.judge.specs.Judge.{data_of, next_slot, starts_file, goes_on, is_intact}
use Rattle.history.specs.Things.{Thing}
use Rattle.history.specs.Things.Thing.{packet, left, gone}

-- the packet came intact, and the slot holds "the file of this channel and application", incomplete
unfoldable pub concerns : Slot → Channel → List ℕ → Bool
concerns x c p =
    incomplete x && of_pair c (packet_of p).application x && leb (packet_of p).application.0 2015 && is_intact p

-- event 6: the packet starts another file of the pair, or does not go on with this one
unfoldable pub ends : Slot → Channel → List ℕ → Bool
ends x c p = concerns x c p && (starts_file (packet_of p) || not (goes_on x (packet_of p) (data_of p)))

-- event 11 or 12: the packet is the next, in order and of the right shape
unfoldable pub adds : Slot → Channel → List ℕ → Bool
adds x c p = concerns x c p && not (starts_file (packet_of p)) && goes_on x (packet_of p) (data_of p)

-- a file is still there, as its slot says, or has come to its end
pub data Fate : Type 0 where
  Still : Slot → Fate
  Ended : Fate

-- the file x of slot k after one thing
unfoldable pub fate : ℕ → Slot → Thing → Fate
fate k x (packet c p) = if ends x c p then Ended else Still (if adds x c p then next_slot x (packet_of p) else x)
fate k x (left i d) = Still x
fate k x (gone j) = if eqb j k then Ended else Still x

-- and after things one after the other
unfoldable pub follow : ℕ → Slot → List Thing → Fate
follow k x [] = Still x
follow k x (t ∷ ts) = elim (fate k x t) [ Still y ↦ follow k y ts | Ended ↦ Ended ]

-- the packets that go on with the file meanwhile, in order
abbrev pub added_by : Slot → Thing → List (List ℕ) → List (List ℕ)
added_by x (packet c p) ps = if adds x c p then p ∷ ps else ps
added_by x (left i d) ps = ps
added_by x (gone j) ps = ps

unfoldable pub added : ℕ → Slot → List Thing → List (List ℕ)
added k x [] = []
added k x (t ∷ ts) = elim (fate k x t) [ Still y ↦ added_by x t (added k y ts) | Ended ↦ [] ]
