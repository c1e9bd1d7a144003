-- Demand 3: the store's blocks, the room that a packet finds, and how a file leaves its slot. Assumes nothing.
use Rattle.std.specs.Prelude.{◌≡◌, true, false, ◌⊎◌, ◌↔◌, List, ◌∷◌, ◌++◌, ℕ, ◌-◌, ◌≤◌, ◌<◌, length, get_or, Option, Some, None}
use Rattle.frame.specs.declared.Channel.{Channel}
use Rattle.packet.specs.Header.{packet_of}
use Rattle.transport.specs.declared.Transport.{Transport}
use Rattle.transport.specs.Length.{need}
use Rattle.state.specs.declared.Station.{Station}
use Rattle.state.specs.Slots.{slot_at, held, need_of}
use Rattle.state.specs.Blocks.{table, blocks_of, Stands, needs}
use Rattle.room.specs.Find.{file_of}
use Rattle.events.specs.Event.{Event, of, at, Among}
use Rattle.judge.specs.Contract.{Watched, Whole}
use Rattle.judge.specs.Judge.{first_slot, judged}
use Rattle.judge.specs.Packets.{Starts}
use Rattle.history.specs.Run.{World, Call, answer, after, run, Start, fresh}
use Rattle.history.specs.Run.Call.{frame, let-go}
use Rattle.history.specs.Things.{Thing, did_all, things, said}
use Rattle.history.specs.Things.Thing.{packet}
use Rattle.history.specs.Follow.{ends, follow}
use Rattle.history.specs.Follow.Fate.{Still, Ended}

-- "every store block is free or belongs to one held file at one place"
pub record Free (s : Station) (b : ℕ) : Type 0 where
  pub free : get_or (table s) b 0 ≡ 0
  pub nowhere : (k i : ℕ) → Stands s b k i → ⊥

pub record BelongsToOne (s : Station) (b : ℕ) : Type 0 where
  pub slot : ℕ
  pub place : ℕ
  pub low : slot < 32
  pub held : held (slot_at s slot) ≡ true
  pub stands : Stands s b slot place
  pub only : (k i : ℕ) → Stands s b k i → (k ≡ slot) × (i ≡ place)

-- "A file needing N blocks holds N": places 0 to N-1, once each
pub record HoldsItsNeed (s : Station) (k : ℕ) : Type 0 where
  pub blocks : length (blocks_of s k) ≡ need_of (slot_at s k)
  pub places : (i : ℕ) → i < need_of (slot_at s k) → (b : ℕ) × Stands s b k i × ((b' : ℕ) → Stands s b' k i → b' ≡ b)

pub record BlocksRight (s : Station) : Type 0 where
  pub each : (b : ℕ) → b < s.blocks → Free s b ⊎ BelongsToOne s b
  pub files : (k : ℕ) → k < 32 → held (slot_at s k) ≡ true → HoldsItsNeed s k

-- a moment of a run: after the calls a frame comes, and behind the things `before` its packet p of the channel is about to be judged
pub record Moment : Type 0 where
  pub start : Start
  pub calls : List Call
  pub sent : List ℕ
  pub list : List ℕ
  pub before : List Thing
  pub channel : Channel
  pub p : List ℕ
  pub later : List Thing
  pub brought : things (run (fresh start) calls) (frame sent list) ≡ before ++ (packet channel p ∷ later)

-- the world when that frame came, and what all that happened so far has left
abbrev pub world_at : Moment → World
world_at m = run (fresh m.start) m.calls

abbrev pub station_at : Moment → Station
station_at m = (did_all (world_at m).station (world_at m).store m.before).station

abbrev pub store_at : Moment → List ℕ
store_at m = (did_all (world_at m).station (world_at m).store m.before).store

-- what holds of every packet at the moment when it is judged
abbrev pub EveryPacket : (Station → List ℕ → Channel → List ℕ → Type 0) → Type 0
EveryPacket P = (m : Moment) → P (station_at m) (store_at m) m.channel m.p

-- it is whole, with a good header, and of a watched channel; blocks and files are right before it and after it
pub record Judgeable (s : Station) (store : List ℕ) (c : Channel) (p : List ℕ) : Type 0 where
  pub whole : Whole p
  pub watched : Watched s c
  pub before : BlocksRight s
  pub after : BlocksRight (judged c s store p).station

-- "from its first packet": event 10 for slot k, and the file is there, with its N blocks
abbrev pub FromTheFirst : Station → List ℕ → Channel → List ℕ → Type 0
FromTheFirst s store c p =
    (k : ℕ) → Among (at 10 (packet_of p).application.0 k) (judged c s store p).events
    → (t : Transport) × Starts p t × (slot_at (judged c s store p).station k ≡ first_slot c (packet_of p) t)
    × (length (blocks_of (judged c s store p).station k) ≡ need t.bits)

-- "to its end": the file of slot k is still there, with the blocks that it had, each at its place; packets may have been added
pub record Keeps (s t : Station) (k : ℕ) : Type 0 where
  pub held : held (slot_at t k) ≡ true
  pub channel : (slot_at t k).channel ≡ (slot_at s k).channel
  pub application : (slot_at t k).application ≡ (slot_at s k).application
  pub bits : (slot_at t k).bits ≡ (slot_at s k).bits
  pub blocks : blocks_of t k ≡ blocks_of s k
  pub accepted : (slot_at s k).accepted ≤ (slot_at t k).accepted

-- "it leaves its slot only by event 6, .. or by" letting it go: 00 names release and drop, which are one call (02, 3/14)
pub data Leaves (w : World) (k : ℕ) : Call → Type 0 where
  by-event-6 : {f list : List ℕ} → answer w (frame f list) ≡ 0
      → Among (at 6 (slot_at w.station k).application.0 k) (said w (frame f list)) → Leaves w k (frame f list)
  by-letting-go : answer w (let-go k) ≡ 0 → Leaves w k (let-go k)

-- over a call a file is followed by its things: it is still there, as followed, and keeps all that it had; or it has come to its end, and leaves
pub data OverCall (w : World) (k : ℕ) (c : Call) : Type 0 where
  still-there : follow k (slot_at w.station k) (things w c) ≡ Still (slot_at (after w c).station k) → Keeps w.station (after w c).station k
      → OverCall w k c
  at-its-end : follow k (slot_at w.station k) (things w c) ≡ Ended → Leaves w k c → OverCall w k c

-- "No opened file is ever lost for want of room"
abbrev pub NeverLost : World → Type 0
NeverLost w = (k : ℕ) → k < 32 → held (slot_at w.station k) ≡ true → (c : Call) → OverCall w k c

-- the same over each packet of a frame
pub data OverPacket (s : Station) (store : List ℕ) (c : Channel) (p : List ℕ) (k : ℕ) : Type 0 where
  kept : ends (slot_at s k) c p ≡ false → Keeps s (judged c s store p).station k → OverPacket s store c p k
  ended : ends (slot_at s k) c p ≡ true → Among (at 6 (slot_at s k).application.0 k) (judged c s store p).events → OverPacket s store c p k

abbrev pub KeptOrEnded : Station → List ℕ → Channel → List ℕ → Type 0
KeptOrEnded s store c p = (k : ℕ) → k < 32 → held (slot_at s k) ≡ true → OverPacket s store c p k

-- "event 6, whose rules never look at room": whether it is given for slot k is a test of that slot and the packet alone
abbrev pub Event6 : Station → List ℕ → Channel → List ℕ → Type 0
Event6 s store c p =
    (k : ℕ) → k < 32 → Among (at 6 (packet_of p).application.0 k) (judged c s store p).events ↔ (ends (slot_at s k) c p ≡ true)

-- the need of an older file of the pair, which a packet that starts a file ends before anything else; 0 if there is none
abbrev pub need_at : Station → Option ℕ → ℕ
need_at s (Some k) = need_of (slot_at s k)
need_at s None = 0

-- "all blocks less the needs of the held files, an older file that it has just ended not counted"
abbrev pub room_for : Station → Channel → List ℕ → ℕ
room_for s c p = s.blocks - (needs s.slots - need_at s (file_of s c (packet_of p).application))

-- a packet p "that starts a file and passes every earlier check", and whose need is N
pub record RoomExactly (s : Station) (store : List ℕ) (c : Channel) (p : List ℕ) (N : ℕ) : Type 0 where
  -- the check before: "event 8 if all 32 slots are held", and no older file of the pair has just left one
  pub no_slot :
      Among (of 8 (packet_of p).application.0) (judged c s store p).events
      ↔ ((file_of s c (packet_of p).application ≡ None) × ((k : ℕ) → k < 32 → held (slot_at s k) ≡ true))
  -- "is refused for room exactly if N exceeds .."
  pub no_room :
      (Among (of 8 (packet_of p).application.0) (judged c s store p).events → ⊥)
      → Among (of 9 (packet_of p).application.0) (judged c s store p).events ↔ (room_for s c p < N)
  -- and else it is opened, there and then: "Tell me at the first packet that there's no room, or keep the file."
  pub opened :
      (Among (of 8 (packet_of p).application.0) (judged c s store p).events → ⊥)
      → ((k : ℕ) × (k < 32) × Among (at 10 (packet_of p).application.0 k) (judged c s store p).events) ↔ (N ≤ room_for s c p)

abbrev pub RefusedForRoom : Station → List ℕ → Channel → List ℕ → Type 0
RefusedForRoom s store c p = (t : Transport) → Starts p t → RoomExactly s store c p (need t.bits)

-- "Tell me at the first packet": what a packet gives stands in the list of the frame that brought it
abbrev pub Logged : Moment → Type 0
Logged m =
    (e : Event) → Among e (judged m.channel (station_at m) (store_at m) m.p).events → Among e (said (world_at m) (frame m.sent m.list))
