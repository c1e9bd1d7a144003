-- Q: "field a, index b" of the state "becomes d, modulo the field's width"; "an index past the array, or a over 12, does nothing": `set` past
-- the end of an array changes nothing. Assumes nothing.
use Rattle.std.specs.Prelude.{not, ◌&&◌, ℕ, ◌%◌, ◌^◌, eqb, leb, set, if◌then◌else◌}
use Rattle.state.specs.declared.Slot.{Slot}
use Rattle.state.specs.declared.Desk.{Desk}
use Rattle.state.specs.declared.Station.{Station}
use Rattle.state.specs.Slots.{slot_at, desk_at}

-- "3 held octets of desk b; 4 seen of desk b (any d but 0 is yes); 5 last counter of desk b"
unfoldable pub desk_poked : ℕ → ℕ → Desk → Desk
desk_poked a d x =
    record {
      held = if eqb a 3 then d % 2 ^ 16 else x.held;
      seen = if eqb a 4 then not (eqb d 0) else x.seen;
      counter = if eqb a 5 then record { 0 = d % 2 ^ 32 } else x.counter;
    }

-- "of slot b: 8 channel, 9 application, 10 length in bits, 11 last count, 12 accepted packets"
unfoldable pub slot_poked : ℕ → ℕ → Slot → Slot
slot_poked a d x =
    record {
      channel = if eqb a 8 then record { 0 = d % 2 ^ 8 } else x.channel;
      application = if eqb a 9 then record { 0 = d % 2 ^ 16 } else x.application;
      bits = if eqb a 10 then d else x.bits;
      count = if eqb a 11 then record { 0 = d % 2 ^ 16 } else x.count;
      accepted = if eqb a 12 then d % 2 ^ 16 else x.accepted;
    }

-- "0 spacecraft; 1 number of channels; 2 channel b; .. 6 number of blocks; 7 owner of block b"; "Widths in bits: fields 0, 1, 2, 7, 8: 8; 3,
-- 6, 9, 11, 12: 16; 5: 32; 10: 64"
unfoldable pub poked : ℕ → ℕ → ℕ → Station → Station
poked a b d s =
    record {
      spacecraft = if eqb a 0 then d % 2 ^ 8 else s.spacecraft;
      channels = if eqb a 1 then d % 2 ^ 8 else s.channels;
      watched = if eqb a 2 then set s.watched b (record { 0 = d % 2 ^ 8 }) else s.watched;
      desks = if leb 3 a && leb a 5 then set s.desks b (desk_poked a d (desk_at s b)) else s.desks;
      blocks = if eqb a 6 then d % 2 ^ 16 else s.blocks;
      owner = if eqb a 7 then set s.owner b (d % 2 ^ 8) else s.owner;
      slots = if leb 8 a && leb a 12 then set s.slots b (slot_poked a d (slot_at s b)) else s.slots;
    }
