-- The demands, one after the other, as one statement about every call and every run. That it holds is proved (proofs/All.antt). A world is
-- the station with its desks and store; a run is any list of calls; both are functions of what came in (Run.antt). Assumes nothing.
use Rattle.std.specs.Prelude.{◌≡◌, List, ◌↔◌, ℕ, ◌≤◌, length}
use Rattle.octets.specs.Number.{Octets}
use Rattle.frame.specs.Header.{derandomised, frame_of, zone_of}
use Rattle.frame.specs.Plainly.{Plainly, ZonePlainly}
use Rattle.packet.specs.declared.Look.TheVariants.{Bad}
use Rattle.packet.specs.Header.{packet_of, look_of}
use Rattle.packet.specs.Plainly.{Plainly as PacketPlainly, BadPlainly}
use Rattle.state.specs.declared.Slot.{Slot}
use Rattle.state.specs.Sound.{Sized}
use Rattle.history.specs.Run.{World, Call, frame_in, answer, run, Start, fresh, SoundWorld}
use Rattle.history.specs.Run.Call.{frame}
use Rattle.history.specs.Calls.{Answers, TellsByNumber, ZerosAfter, SetsUp, Told}
use Rattle.history.specs.Files.{CameInRun, PacketsRight, HeldExactly, CompleteExactly, ReportsExactly, BlocksHold, FilesCarried, ReadsRefused, PagesCame, NoStrip, FactsCame, TellingsRefused, FactsGood}
use Rattle.history.specs.Sorted.{SortedByChannel, FilesSorted}
use Rattle.history.specs.Freed.{HeldThen, FreesAtOnce, LetsGo}
use Rattle.history.specs.Heard.{EveryChannelHeard}
use Rattle.history.specs.Openings.{EveryFrame, RuledOnce}
use Rattle.history.specs.Events.{EventsExactly}
use Rattle.history.specs.Headers.{HeadersRead}
use Rattle.history.specs.Store.{BlocksRight, Moment, EveryPacket, Judgeable, FromTheFirst, NeverLost, KeptOrEnded, Event6, RefusedForRoom, Logged}

-- "From a fresh station, after any sequence of frames, reads, releases and drops, with state and memory handed back untouched": releases and
-- drops are one call now, and "Demand 3's list of calls follows" (02, 3/14)
abbrev pub EveryRun : (World → Type 0) → Type 0
EveryRun P = (x : Start) (cs : List Call) → P (run (fresh x) cs)

abbrev pub OfEveryRun : (Start → List Call → Type 0) → Type 0
OfEveryRun P = (x : Start) (cs : List Call) → P x cs

-- "From a set-up answered by 0, with state and memory handed back untouched after every call, no call is answered by 2."
pub record NeverUnsound (w : World) : Type 0 where
  pub sound : SoundWorld w
  pub never-2 : (c : Call) → answer w c ≡ 2 → ⊥

-- "no frame produces more than 300": 151 is the greatest number
abbrev pub FewEvents : World → Type 0
FewEvents w = (f list : List ℕ) → (frame_in w f list).events ≤ 151

-- "Whatever octets come off the dish, and whatever state we hand back"
pub record First : Type 0 where
  -- "every call ends, does nothing undefined and answers by the rules paper's numbers. A refused call changes no octet of desks or store,
  -- no slot and no event."
  pub answers : (w : World) (c : Call) → Answers w c
  -- so too the call that tells what is known of a file, which can change nothing
  pub tells : (w : World) (k : ℕ) → TellsByNumber w k
  -- what a table's test cannot leave out unseen: a desk's octets behind those that it holds
  pub zeros-after : (w : World) (f list : List ℕ) → ZerosAfter w f list
  pub sets-up : (craft : ℕ) (channels desks store : List ℕ) → SetsUp craft channels desks store
  -- the events of a frame are those of its list, and not too many for it, whatever state was handed back
  pub told : (w : World) (f list : List ℕ) → answer w (frame f list) ≡ 0 → Told w f list
  pub few : (w : World) → Sized w.station → FewEvents w
  -- no call of a run is refused for its state
  pub sound : EveryRun NeverUnsound

pub record Second : Type 0 where
  -- "Frames are read as .. CCSDS 701.0 and 101.0 define them": header, zone and packet, in their octets as they came, and when a packet's header is bad
  pub header : (f : List ℕ) → length f ≡ 1024 → Octets f → Plainly f (frame_of (derandomised f))
  pub zone : (f : List ℕ) → length f ≡ 1024 → ZonePlainly f (zone_of (derandomised f))
  pub packet : (p : List ℕ) → 6 ≤ length p → Octets p → PacketPlainly p (packet_of p)
  pub bad-packet : (p : List ℕ) → 6 ≤ length p → Octets p → (look_of p ≡ Bad) ↔ BadPlainly p
  -- "derandomised, sorted by channel": a packet is judged under the channel of the frame that brought it; a file's packets came on its channel
  pub sorted : (m : Moment) → SortedByChannel m
  pub files-sorted : OfEveryRun FilesSorted
  -- packets are cut from contiguous stretches of consecutive frames; events 1, 2 and 3 exactly when their rules say, which leave no choice
  pub heard : OfEveryRun EveryChannelHeard
  pub frames : OfEveryRun EveryFrame
  pub ruled : RuledOnce
  -- "checked by CRC and sequence": what each packet gives, each event exactly when its rule says
  pub events : EveryPacket EventsExactly
  -- "A file is complete exactly when it was opened and all its packets then came .. with nothing ending it by the paper's rules."
  pub complete : OfEveryRun CompleteExactly
  -- "and reports whether it was complete" (02, 3/14)
  pub reported : OfEveryRun ReportsExactly
  -- ".. intact, in order"
  pub in_order : (x : Start) (cs : List Call) (k : ℕ) (y : Slot) (m : CameInRun x cs k y) → PacketsRight m
  -- a slot holds what came so, and nothing else
  pub held : OfEveryRun HeldExactly
  -- "Its octets are those its packets carried"
  pub octets : OfEveryRun FilesCarried
  -- "12 stays for reads, 11 stays" (02, 3/14): what is no octet of a complete file is not read
  pub reads : EveryRun ReadsRefused
  pub pages : OfEveryRun PagesCame
  -- no "strip of cloud from one picture sewn into another"
  pub no-strip : OfEveryRun NoStrip
  -- the facts that a catalogue has of a complete file are told as they came, and of no other file (02, 5/14)
  pub facts : OfEveryRun FactsCame
  pub untold : EveryRun TellingsRefused
  pub facts-good : (w : World) → Sized w.station → FactsGood w
  -- "and its header records are read to their published meaning or refused by number"
  pub headers : OfEveryRun HeadersRead

pub record Third : Type 0 where
  -- "every store block is free or belongs to one held file at one place": between calls, and at every packet of a frame
  pub blocks : EveryRun (λ w. BlocksRight w.station)
  pub packets : EveryPacket Judgeable
  -- "A file needing N blocks holds N from its first packet"
  pub from-the-first : EveryPacket FromTheFirst
  -- ".. to its end": over a call, and over each packet of a frame. "No opened file is ever lost for want of room: it leaves its slot only
  -- by event 6, .. or by" letting it go
  pub to-its-end : EveryRun NeverLost
  pub kept : EveryPacket KeptOrEnded
  -- "An abandoned .. file frees its slot and blocks", at once; what a slot holds at every packet
  pub frees : EveryPacket FreesAtOnce
  pub held_then : (m : Moment) → HeldThen m
  -- "one operation that frees any held file" (02, 3/14)
  pub lets_go : EveryRun LetsGo
  -- "event 6, whose rules never look at room"
  pub event-6 : EveryPacket Event6
  -- "and its first blocks hold the data of its accepted packets in order"
  pub first-blocks : OfEveryRun BlocksHold
  -- "A packet that starts a file and passes every earlier check is refused for room exactly if N exceeds all blocks less the needs of the
  -- held files, an older file that it has just ended not counted."
  pub room : EveryPacket RefusedForRoom
  -- "Tell me at the first packet that there's no room"
  pub logged : (m : Moment) → Logged m

pub record Demands : Type 0 where
  pub first : First
  pub second : Second
  pub third : Third
