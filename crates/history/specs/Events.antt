-- "Packets": which event exactly when. The whole table of what one packet gives, in the paper's order and words: neither the functions that
-- judge a packet nor those that search a slot are used. Assumes nothing.
use Rattle.std.specs.Prelude.{◌≡◌, true, false, ◌⊎◌, ◌↔◌, List, [], ◌∷◌, ℕ, ◌+◌, ◌≤◌, ◌<◌, length}
use Rattle.crc.specs.Crc.{crc_of}
use Rattle.frame.specs.declared.Channel.{Channel}
use Rattle.packet.specs.declared.Packet.{Packet}
use Rattle.packet.specs.Header.{packet_of}
use Rattle.transport.specs.Length.{transport_of, octets_of_bits, need}
use Rattle.state.specs.declared.Station.{Station}
use Rattle.state.specs.Slots.{slot_at, held, incomplete}
use Rattle.events.specs.Event.{Event, Among}
use Rattle.judge.specs.Judge.{data_of, check_of, judged}
use Rattle.judge.specs.Packets.{Undamaged, Starting, Following}
use Rattle.history.specs.Store.{room_for}

-- "for the file of this channel and application": slot k has the incomplete file of the pair
pub record OfPair (s : Station) (c : Channel) (p : List ℕ) (k : ℕ) : Type 0 where
  pub low : k < 32
  pub incomplete : incomplete (slot_at s k) ≡ true
  pub channel : (slot_at s k).channel.0 ≡ c.0
  pub application : (slot_at s k).application.0 ≡ (packet_of p).application.0

-- "Flags 0 (middle) or 2 (last)"
abbrev pub Later : Packet → Type 0
Later h = (h.flags ≡ 0) ⊎ (h.flags ≡ 2)

-- the bit length L in a packet's data, and the need N that it gives
abbrev pub bits_in : List ℕ → ℕ
bits_in p = (transport_of (data_of p)).bits

abbrev pub need_in : List ℕ → ℕ
need_in p = need (bits_in p)

-- "First: 8,190 octets and N at least 2. Whole: 10 + L/8 octets and N = 1."
abbrev pub Shape : List ℕ → Type 0
Shape p =
    (((packet_of p).flags ≡ 1) × (length (data_of p) ≡ 8190) × (2 ≤ need_in p))
    ⊎ (((packet_of p).flags ≡ 3) × (length (data_of p) ≡ 10 + octets_of_bits (bits_in p)) × (need_in p ≡ 1))

-- not "Event 7 if the data is under 10 octets, the 64-bit bit length L .. is 0 .., or the shape is wrong" (01; 02, 2/14)
pub record WellBegun (p : List ℕ) : Type 0 where
  pub ten : 10 ≤ length (data_of p)
  pub some : bits_in p ≡ 0 → ⊥
  pub shape : Shape p

-- a slot is free for a packet that starts a file, if it is not held, or held by the older file of the pair, which is abandoned before
abbrev pub FreeFor : Station → Channel → List ℕ → ℕ → Type 0
FreeFor s c p k = (held (slot_at s k) ≡ false) ⊎ OfPair s c p k

-- "the lowest free slot"
pub record LowestFree (s : Station) (c : Channel) (p : List ℕ) (k : ℕ) : Type 0 where
  pub low : k < 32
  pub free : FreeFor s c p k
  pub before : (j : ℕ) → j < k → FreeFor s c p j → ⊥

-- a packet "that starts a file and passes every earlier check", but for a slot and room
pub record Asks (p : List ℕ) : Type 0 where
  pub undamaged : Undamaged p
  pub begun : WellBegun p

-- such a packet finds slot k and room for N blocks
pub record Finds (s : Station) (c : Channel) (p : List ℕ) (k : ℕ) : Type 0 where
  pub asks : Asks p
  pub slot : LowestFree s c p k
  pub room : need_in p ≤ room_for s c p

-- packet p, of channel c, is the next of the file in slot k
pub record GoesOn (s : Station) (c : Channel) (p : List ℕ) (k : ℕ) : Type 0 where
  pub undamaged : Undamaged p
  pub file : OfPair s c p k
  pub follows : Following (slot_at s k) (packet_of p) (data_of p)

-- why an event of a kind is given, for a slot, or for 0 where it carries none. Of fill, application 2047, there is none
pub data Why (s : Station) (c : Channel) (p : List ℕ) : ℕ → ℕ → Type 0 where
  -- "2016 to 2046: event 13, skipped"
  reserved : 2016 ≤ (packet_of p).application.0 → (packet_of p).application.0 ≤ 2046 → Why s c p 13 0
  -- "Otherwise the last two octets are the CRC of the data before them .. Wrong: event 4"
  wrong-check : (packet_of p).application.0 ≤ 2015 → (crc_of (data_of p) ≡ check_of p → ⊥) → Why s c p 4 0
  -- "Flags 1 (first) or 3 (whole): an incomplete file of the pair is abandoned, event 6, whatever follows"
  another-starts : {k : ℕ} → Undamaged p → Starting (packet_of p) → OfPair s c p k → Why s c p 6 k
  -- "Event 7 if .."
  ill-begun : Undamaged p → Starting (packet_of p) → (WellBegun p → ⊥) → Why s c p 7 0
  -- "Then event 8 if all 32 slots are held"
  no_slot : Asks p → ((k : ℕ) → k < 32 → FreeFor s c p k → ⊥) → Why s c p 8 0
  -- "then event 9 if N exceeds the free blocks"
  no_room : {k : ℕ} → Asks p → LowestFree s c p k → room_for s c p < need_in p → Why s c p 9 0
  -- "otherwise the lowest free slot .., event 10, and for a whole file event 12"
  opens : {k : ℕ} → Finds s c p k → Why s c p 10 k
  opens-whole : {k : ℕ} → Finds s c p k → (packet_of p).flags ≡ 3 → Why s c p 12 k
  -- "Flags 0 (middle) or 2 (last) with no incomplete file: event 5"
  no-file : Undamaged p → Later (packet_of p) → ((k : ℕ) → OfPair s c p k → ⊥) → Why s c p 5 0
  -- "With one, the count must follow the last .. If so it is written into its block, event 11, or 12 for the last. If not, event 6."
  next : {k : ℕ} → GoesOn s c p k → (packet_of p).flags ≡ 0 → Why s c p 11 k
  next-is-last : {k : ℕ} → GoesOn s c p k → (packet_of p).flags ≡ 2 → Why s c p 12 k
  not-the-next : {k : ℕ} → Undamaged p → Later (packet_of p) → OfPair s c p k → (Following (slot_at s k) (packet_of p) (data_of p) → ⊥)
      → Why s c p 6 k

-- the kinds go up: event 6 stands before what follows it, "event 10, and for a whole file event 12 after it", and none is given twice
abbrev pub Rising : List Event → Type 0
Rising [] = Unit
Rising (e ∷ es) = ((f : Event) → Among f es → e.kind < f.kind) × Rising es

-- the events of a packet are those that have a reason, and no others, with its application; so they are known to the last
pub record EventsExactly (s : Station) (store : List ℕ) (c : Channel) (p : List ℕ) : Type 0 where
  pub given :
      (e : Event) → Among e (judged c s store p).events ↔ ((e.application ≡ (packet_of p).application.0) × Why s c p e.kind e.slot)
  pub rising : Rising (judged c s store p).events
