-- What the rules ask of a packet before they look at slots and room ("Packets"). Assumes nothing.
use Rattle.std.specs.Prelude.{◌≡◌, true, ◌⊎◌, List, ℕ, ◌+◌, ◌≤◌, length, Some}
use Rattle.packet.specs.declared.Packet.{Packet}
use Rattle.packet.specs.Kinds.{next_count}
use Rattle.packet.specs.Header.{packet_of}
use Rattle.transport.specs.declared.Transport.{Transport}
use Rattle.transport.specs.Length.{rest}
use Rattle.transport.specs.Shape.{begun_of}
use Rattle.state.specs.declared.Slot.{Slot}
use Rattle.state.specs.Slots.{need_of}
use Rattle.judge.specs.Judge.{data_of, is_intact}

-- a packet of a file, and "the last two octets are the CRC of the data before them"
pub record Undamaged (p : List ℕ) : Type 0 where
  pub file : (packet_of p).application.0 ≤ 2015
  pub intact : is_intact p ≡ true

-- "Flags 1 (first) or 3 (whole)"
abbrev pub Starting : Packet → Type 0
Starting h = (h.flags ≡ 1) ⊎ (h.flags ≡ 3)

-- "A packet that starts a file and passes every earlier check", with the transport header t: what is left to ask is whether there is a
-- slot, and room
pub record Starts (p : List ℕ) (t : Transport) : Type 0 where
  pub undamaged : Undamaged p
  pub starting : Starting (packet_of p)
  -- not "Event 7 if the data is under 10 octets, .. or the shape is wrong"
  pub right : begun_of (packet_of p).flags (data_of p) ≡ Some t

-- "With one, the count must follow the last modulo 16,384; a middle packet has 8,190 octets and isn't the Nth; a last one is the Nth with
-- exactly the rest.": a packet with header h and data d, and the file in slot x
pub record Following (x : Slot) (h : Packet) (d : List ℕ) : Type 0 where
  pub count : h.count.0 ≡ (next_count x.count).0
  pub shape :
      ((h.flags ≡ 0) × (length d ≡ 8190) × (x.accepted + 1 ≡ need_of x → ⊥))
      ⊎ ((h.flags ≡ 2) × (x.accepted + 1 ≡ need_of x) × (length d ≡ rest x.bits))
  pub few : length d ≤ 8190
