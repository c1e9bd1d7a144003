-- "There are 32 file slots, numbered from 0." Assumes nothing.
use Rattle.std.specs.Prelude.{Bool, false, not, ◌&&◌, List, map, ℕ, eqb, get_or, set, take, replicate}
use Rattle.frame.specs.declared.Channel.{Channel}
use Rattle.packet.specs.declared.Application.{Application}
use Rattle.transport.specs.Length.{need}
use Rattle.state.specs.declared.Slot.{Slot}
use Rattle.state.specs.declared.Desk.{Desk}
use Rattle.state.specs.declared.Station.{Station}
use Rattle.state.specs.declared.Head.{Head}

-- "a free slot is all zero"
abbrev pub no_file : Slot
no_file = record { channel = record { 0 = 0 }; application = record { 0 = 0 }; bits = 0; count = record { 0 = 0 }; accepted = 0 }

abbrev pub slot_at : Station → ℕ → Slot
slot_at s k = get_or s.slots k no_file

-- a slot is held from the first packet that is accepted for it
unfoldable pub held : Slot → Bool
held x = not (eqb x.accepted 0)

-- the need N of a held slot, which its length gives
abbrev pub need_of : Slot → ℕ
need_of x = need x.bits

-- "being complete exactly if p = N"
unfoldable pub complete : Slot → Bool
complete x = held x && eqb x.accepted (need_of x)

unfoldable pub incomplete : Slot → Bool
incomplete x = held x && not (eqb x.accepted (need_of x))

-- the slot's file is of this channel and application
unfoldable pub of_pair : Channel → Application → Slot → Bool
of_pair c a x = eqb x.channel.0 c.0 && eqb x.application.0 a.0

-- an empty desk at which no frame was seen
abbrev pub empty_desk : Desk
empty_desk = record { held = 0; seen = false; counter = record { 0 = 0 } }

abbrev pub desk_at : Station → ℕ → Desk
desk_at s i = get_or s.desks i empty_desk

abbrev pub number : Channel → ℕ
number c = c.0

-- the numbers of the channels watched, "in the order named"
abbrev pub named : Station → List ℕ
named s = map number (take s.channels s.watched)

-- a state but for its files: what no packet changes
abbrev pub head_of : Station → Head
head_of s =
    record {
      spacecraft = s.spacecraft;
      channels = s.channels;
      watched = s.watched;
      desks = s.desks;
      blocks = s.blocks;
    }

-- the same with another desk i
abbrev pub on_desk : Head → ℕ → Desk → Head
on_desk h i d =
    record { spacecraft = h.spacecraft; channels = h.channels; watched = h.watched; desks = set h.desks i d; blocks = h.blocks }

-- the state of the parts: its head, the blocks' owners and the slots
abbrev pub station_of : Head → List ℕ → List Slot → Station
station_of h owners slots =
    record {
      spacecraft = h.spacecraft;
      channels = h.channels;
      watched = h.watched;
      desks = h.desks;
      blocks = h.blocks;
      owner = owners;
      slots = slots;
    }

-- "a refused set-up's state is all zero, which isn't sound"
abbrev pub all_zero_state : Station
all_zero_state =
    record {
      spacecraft = 0;
      channels = 0;
      watched = replicate 8 (record { 0 = 0 });
      desks = replicate 8 empty_desk;
      blocks = 0;
      owner = replicate 4096 0;
      slots = replicate 32 no_file;
    }
