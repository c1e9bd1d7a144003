-- Demand 2: when a file is complete, that its octets are those its packets carried, and what is told of it. Assumes nothing.
use Rattle.std.specs.Prelude.{◌≡◌, true, false, ◌⊎◌, ◌↔◌, ℕ, ◌+◌, ◌/◌, ◌%◌, ◌≤◌, ◌<◌, eqb, length, get_or, take, drop, if◌then◌else◌, Ok}
use mathlib.Core.List.{List, [], ◌∷◌, ◌++◌, map, flatten}
use Rattle.octets.specs.Number.{part}
use Rattle.refusals.specs.Refusals.{refuse}
use Rattle.frame.specs.declared.Channel.{Channel}
use Rattle.packet.specs.Header.{packet_of}
use Rattle.facts.specs.declared.Facts.{Facts}
use Rattle.transport.specs.declared.Transport.{Transport}
use Rattle.transport.specs.Length.{transport_of, octets_of_bits, rest}
use Rattle.state.specs.declared.Slot.{Slot}
use Rattle.state.specs.declared.Station.{Station}
use Rattle.state.specs.Slots.{slot_at, held, complete, need_of}
use Rattle.state.specs.Blocks.{blocks_of}
use Rattle.room.specs.File.{block_octets, file_octets}
use Rattle.events.specs.Event.{at, Among}
use Rattle.judge.specs.Judge.{data_of, first_slot, next_slot, judged}
use Rattle.judge.specs.Packets.{Undamaged, Starting, Starts, Following}
use Rattle.history.specs.Run.{World, Call, answer, run, Start, fresh}
use Rattle.history.specs.Run.Call.{read, let-go}
use Rattle.history.specs.Calls.{result_of, reported, told_in}
use Rattle.history.specs.Things.{Thing, did_all, all_things}
use Rattle.history.specs.Things.Thing.{packet}
use Rattle.history.specs.Follow.{follow, added}
use Rattle.history.specs.Follow.Fate.{Still}
use Rattle.history.specs.Ledger.{Page, ledger_run, no_pages}

-- the file x of slot k came about by these things, one after the other
pub record Came (s : Station) (store : List ℕ) (ts : List Thing) (k : ℕ) (x : Slot) : Type 0 where
  pub before : List Thing
  pub channel : Channel
  pub first : List ℕ
  pub later : List Thing
  pub file : Transport
  pub split : ts ≡ before ++ (packet channel first ∷ later)
  -- "it was opened": one of the things is its first packet, and that gave event 10 for slot k
  pub starts : Starts first file
  pub opened :
      Among (at 10 (packet_of first).application.0 k)
      (judged channel (did_all s store before).station (did_all s store before).store first).events
  -- "with nothing ending it by the paper's rules": what came after that, looked at from its slot alone, leaves the file as x
  pub followed : follow k (first_slot channel (packet_of first) file) later ≡ Still x

abbrev pub CameInRun : Start → List Call → ℕ → Slot → Type 0
CameInRun x cs = Came (fresh x).station (fresh x).store (all_things (fresh x) cs)

-- the packets of a file that came about: the first, and those that went on with it
abbrev pub packets_of : {s : Station} {store : List ℕ} {ts : List Thing} {k : ℕ} {x : Slot} → Came s store ts k x → List (List ℕ)
packets_of {k = k} m = m.first ∷ added k (first_slot m.channel (packet_of m.first) m.file) m.later

-- in state s, after the things ts, each slot holds exactly what came about by them
abbrev pub HoldsWhatCame : Start → List Thing → Station → Type 0
HoldsWhatCame x ts s =
    (k : ℕ) → k < 32 → (y : Slot) → held y ≡ true → (slot_at s k ≡ y) ↔ Came (fresh x).station (fresh x).store ts k y

-- at the end of a run
abbrev pub HeldExactly : Start → List Call → Type 0
HeldExactly x cs = HoldsWhatCame x (all_things (fresh x) cs) (run (fresh x) cs).station

-- "it was opened and all its packets then came": they are N
abbrev pub AllCame : Start → List Call → ℕ → Type 0
AllCame x cs k = (y : Slot) × (m : CameInRun x cs k y) × (length (packets_of m) ≡ need_of y)

-- "A file is complete exactly when" they came
abbrev pub CompleteExactly : Start → List Call → Type 0
CompleteExactly x cs =
    (k : ℕ) → k < 32 → (complete (slot_at (run (fresh x) cs).station k) ≡ true) ↔ AllCame x cs k

-- and that is what is reported where the file is let go: "reports whether it was complete" (02, 3/14)
abbrev pub ReportsExactly : Start → List Call → Type 0
ReportsExactly x cs = (k : ℕ) → k < 32 → (reported (run (fresh x) cs) (let-go k) ≡ true) ↔ AllCame x cs k

-- a packet that goes on with the file in slot x
pub record GoesOnWith (x : Slot) (p : List ℕ) : Type 0 where
  pub application : (packet_of p).application.0 ≡ x.application.0
  pub intact : Undamaged p
  pub later : Starting (packet_of p) → ⊥
  pub following : Following x (packet_of p) (data_of p)

-- ".. intact, in order": each packet goes on with the file as those before it leave it, up to y
abbrev pub InOrder : Slot → List (List ℕ) → Slot → Type 0
InOrder x [] y = x ≡ y
InOrder x (p ∷ ps) y = GoesOnWith x p × InOrder (next_slot x (packet_of p)) ps y

pub record PacketsRight {s : Station} {store : List ℕ} {ts : List Thing} {k : ℕ} {x : Slot} (m : Came s store ts k x) : Type 0 where
  pub in_order :
      InOrder (first_slot m.channel (packet_of m.first) m.file) (added k (first_slot m.channel (packet_of m.first) m.file) m.later) x
  -- the slot counts them
  pub count : length (packets_of m) ≡ x.accepted

-- what the i-th packet of a file carries: "8,190 octets", and the Nth "exactly the rest"; of a file of one packet the rest is all of it
abbrev pub entry_size : Slot → ℕ → ℕ
entry_size x i = if eqb (i + 1) (need_of x) then rest x.bits else 8190

-- the page of a held slot x with the blocks bs, in order of place: "its first blocks hold the data of its accepted packets in order"
pub record PageRight (x : Slot) (bs store : List ℕ) (page : Page) : Type 0 where
  -- an entry for each packet accepted, each of the paper's size
  pub count : length page ≡ x.accepted
  pub sizes : (i : ℕ) → i < x.accepted → length (get_or page i []) ≡ entry_size x i
  -- the first begins with the ten transport octets, which give the file's length
  pub header : (10 ≤ length (get_or page 0 [])) × ((transport_of (get_or page 0 [])).bits ≡ x.bits)
  -- the block at place i begins with the i-th entry
  pub blocks : (i : ℕ) → i < x.accepted → take (length (get_or page i [])) (block_octets store (get_or bs i 0)) ≡ get_or page i []

-- of every held file of a run
abbrev pub BlocksHold : Start → List Call → Type 0
BlocksHold x cs =
    (k : ℕ) → k < 32 → held (slot_at (run (fresh x) cs).station k) ≡ true
    → PageRight (slot_at (run (fresh x) cs).station k) (blocks_of (run (fresh x) cs).station k) (run (fresh x) cs).store
    (ledger_run (fresh x) cs no_pages k)

-- a page joined, "the ten transport octets don't count"
abbrev pub carried : Page → List ℕ
carried page = drop 10 (flatten page)

-- "Its octets are those its packets carried": a complete file is its page joined, less the ten transport octets
pub record FileRight (w : World) (k : ℕ) (page : Page) : Type 0 where
  pub octets : file_octets w.station w.store k ≡ carried page
  pub size : length (carried page) ≡ octets_of_bits (slot_at w.station k).bits
  -- "A read copies file octets from a given offset .. to fill a lent buffer"
  pub read-part :
      (offset : ℕ) (buffer : List ℕ) → offset + length buffer ≤ octets_of_bits (slot_at w.station k).bits
      → (answer w (read k offset buffer) ≡ 0) × (result_of w (read k offset buffer) ≡ part offset (length buffer) (carried page))
  -- no strip of another picture: octet n of the file was carried by the packet of its own page that has that place
  pub octet :
      (n : ℕ) → n < octets_of_bits (slot_at w.station k).bits
      → get_or (file_octets w.station w.store k) n 0 ≡ get_or (get_or page ((10 + n) / 8190) []) ((10 + n) % 8190) 0

-- the reads that are refused, of each slot: "11: slot 32 or more, or not held", "12: read .. of an incomplete file", "14: read passes the file's
-- end"
pub record ReadRefused (w : World) (k offset : ℕ) (buffer : List ℕ) : Type 0 where
  pub by-11 : ((k < 32) × (held (slot_at w.station k) ≡ true) → ⊥) → answer w (read k offset buffer) ≡ 11
  pub by-12 : k < 32 → held (slot_at w.station k) ≡ true → complete (slot_at w.station k) ≡ false → answer w (read k offset buffer) ≡ 12
  pub by-14 :
      k < 32 → complete (slot_at w.station k) ≡ true → octets_of_bits (slot_at w.station k).bits < offset + length buffer
      → answer w (read k offset buffer) ≡ 14

abbrev pub ReadsRefused : World → Type 0
ReadsRefused w = (k offset : ℕ) (buffer : List ℕ) → ReadRefused w k offset buffer

-- of every complete file of a run, with its page of the run's ledger
abbrev pub FilesCarried : Start → List Call → Type 0
FilesCarried x cs =
    (k : ℕ) → k < 32 → complete (slot_at (run (fresh x) cs).station k) ≡ true → FileRight (run (fresh x) cs) k (ledger_run (fresh x) cs no_pages k)

-- the page of a file that came about is the data of its packets, in order
abbrev pub PagesCame : Start → List Call → Type 0
PagesCame x cs =
    (k : ℕ) → k < 32 → (y : Slot) (m : CameInRun x cs k y) → ledger_run (fresh x) cs no_pages k ≡ map data_of (packets_of m)

-- octet i of what a read of a complete file gives was carried by a packet that was accepted for this file, at that place of its data
abbrev pub NoStrip : Start → List Call → Type 0
NoStrip x cs =
    (k : ℕ) → k < 32 → (y : Slot) (m : CameInRun x cs k y) → complete y ≡ true
    → (offset : ℕ) (buffer : List ℕ) → offset + length buffer ≤ octets_of_bits y.bits
    → (i : ℕ) → i < length buffer
    → get_or (result_of (run (fresh x) cs) (read k offset buffer)) i 0
    ≡ get_or (data_of (get_or (packets_of m) ((10 + (offset + i)) / 8190) [])) ((10 + (offset + i)) % 8190) 0

-- the facts in the first packet of a file, of the channel that it came on: its application, and "the 64-bit bit length L (octets 2 to 9, after
-- the 16-bit file counter)"
abbrev pub facts_of : Channel → List ℕ → Facts
facts_of c first =
    record {
      channel = c;
      application = (packet_of first).application;
      counter = (transport_of (data_of first)).counter;
      bits = (transport_of (data_of first)).bits;
    }

-- "channel 1, application 2, file counter 2, L 8" (02, 5/14): what is told of a complete file is what the first packet accepted for it says
abbrev pub FactsCame : Start → List Call → Type 0
FactsCame x cs =
    (k : ℕ) → k < 32 → (y : Slot) (m : CameInRun x cs k y) → complete y ≡ true → told_in (run (fresh x) cs) k ≡ Ok (facts_of m.channel m.first)

-- and of no other file anything: "11: slot 32 or more, or not held", "12: .. an incomplete file", each exactly then; no other number is given
pub record TellingRefused (w : World) (k : ℕ) : Type 0 where
  pub by-11 : (told_in w k ≡ refuse 11) ↔ ((k < 32) × (held (slot_at w.station k) ≡ true) → ⊥)
  pub by-12 : (told_in w k ≡ refuse 12) ↔ ((k < 32) × (held (slot_at w.station k) ≡ true) × (complete (slot_at w.station k) ≡ false))
  pub no_other : (n : ℕ) → told_in w k ≡ refuse n → (n ≡ 11) ⊎ (n ≡ 12)

abbrev pub TellingsRefused : World → Type 0
TellingsRefused w = (k : ℕ) → TellingRefused w k

-- "with channels 0 to 62, applications up to 2015 and L at least 1" (02, 5/14): what is told, from whatever state was handed in, no catalogue refuses
abbrev pub FactsGood : World → Type 0
FactsGood w = (k : ℕ) (f : Facts) → told_in w k ≡ Ok f → (f.channel.0 ≤ 62) × (f.application.0 ≤ 2015) × (1 ≤ f.bits)
