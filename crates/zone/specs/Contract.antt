-- What the functions of this crate, of `walk` and of `carry` ask and promise. Assumes nothing.
use Rattle.std.specs.Prelude.{◌≡◌, Bool, true, false, List, ℕ, ◌+◌, ◌-◌, ◌*◌, ◌≤◌, ◌<◌, ltb, length, drop, if◌then◌else◌}
use Rattle.octets.specs.Buffer.{put}
use Rattle.frame.specs.declared.Channel.{Channel}
use Rattle.frame.specs.declared.Accepted.{Accepted}
use Rattle.frame.specs.declared.Pointer.{Pointer}
use Rattle.frame.specs.declared.Pointer.TheVariants.{Offset, NoStart, Refused}
use Rattle.packet.specs.declared.Look.{Look}
use Rattle.packet.specs.declared.Look.TheVariants.{Short, Bad, Good}
use Rattle.packet.specs.Header.{look_of, size_of}
use Rattle.state.specs.declared.Slot.{Slot}
use Rattle.state.specs.declared.Station.{Station}
use Rattle.state.specs.Slots.{desk_at}
use Rattle.state.specs.Sound.{Sound, DesksSound}
use Rattle.events.specs.Event.{flat}
use Rattle.judge.specs.Contract.{Watched, Whole, Tells as TellsJudged}
use Rattle.zone.specs.declared.Done.{Done}
use Rattle.zone.specs.declared.Sequel.{Sequel}
use Rattle.zone.specs.declared.Sequel.TheVariants.{Dropped, CarriedOn}
use Rattle.zone.specs.declared.Next.{Next}
use Rattle.zone.specs.declared.Next.TheVariants.{Take, End}
use Rattle.zone.specs.Zone.{split, Reading, agrees, reading}
use Rattle.zone.specs.Walk.{judged_all, held_at, desk_after, Walked, walked_from}

-- place in the zone at which reading begins: 884, its end, for nowhere
unfoldable pub start_at : Pointer → ℕ
start_at (Offset p) = p
start_at NoStart = 884
start_at Refused = 884

-- a sound station with its desks and its store, the zone of a frame for one of its desks, to be read from within, and an event list of the
-- size that is asked for
pub record Lent (c : Channel) (s : Station) (a : Accepted) (zone desks store list : List ℕ) : Type 0 where
  pub sound : Sound s
  pub owners : length s.owner ≡ 4096
  pub watched : Watched s c
  pub desk : a.desk < s.channels
  pub frame : length zone ≡ 884
  pub start : start_at a.pointer ≤ 884
  pub desked : length desks ≡ 8198 * s.channels
  pub stored : length store ≡ 8190 * s.blocks
  pub listed : 900 ≤ length list

-- room in the list for the events of octets still to be read, behind the n that it has: an event takes three octets at least, so there is
-- room by the octets left; or they are one packet, which gives three events at most; or there are none
pub data Room (list : List ℕ) (n : ℕ) (xs : List ℕ) : Type 0 where
  by-octets : 3 * n + length xs + 8 ≤ length list → Room list n xs
  by-packet : Whole xs → 3 * (n + 3) ≤ length list → Room list n xs
  by-none : length xs ≡ 0 → Room list n xs

-- a sound station with its store, octets to be read from a place on, and a list with room for their events
pub record Going (c : Channel) (s : Station) (zone : List ℕ) (from : ℕ) (store list : List ℕ) (n : ℕ) : Type 0 where
  pub sound : Sound s
  pub owners : length s.owner ≡ 4096
  pub watched : Watched s c
  pub within : from ≤ length zone
  pub short : length zone ≤ 8198
  pub stored : length store ≡ 8190 * s.blocks
  pub room : Room list n (drop from zone)

-- "If octets are held": what is lent for a frame, with so many held on its desk
pub record Carrying (c : Channel) (s : Station) (a : Accepted) (held : ℕ) (zone desks store list : List ℕ) : Type 0 where
  pub lent : Lent c s a zone desks store list
  pub orderly : DesksSound s desks
  pub here : held ≡ (desk_at s a.desk).held
  pub some : 0 < held

-- what comes next in so many octets, by what stands at their start: a whole packet, or the end of what can be judged
unfoldable pub next_by : Look → ℕ → Next
next_by Short n = End false
next_by Bad n = End true
next_by (Good h) n = if ltb n (size_of h) then End false else Take h

abbrev pub next_of : List ℕ → Next
next_of xs = next_by (look_of xs) (length xs)

-- what comes of a frame that leaves so many octets on its desk
abbrev pub leaves : List Slot → Accepted → ℕ → ℕ → Done
leaves slots a held n = record { slots = slots; events = n; desk = desk_after a held }

-- what becomes of a held packet, by what stands at its start: dropped with an event, or carried on with its size
unfoldable pub sequel_of : Look → ℕ → Pointer → Sequel
sequel_of Short held p = Dropped 3
sequel_of Bad held p = Dropped 3
sequel_of (Good h) held p = if agrees (size_of h - held) p then CarriedOn (size_of h) else Dropped 2

-- what came out is what was to come of it: the state t, and m events, behind the n that the list had
pub record TellsWalked (w : Walked) (n : ℕ) (list₀ : List ℕ) (t : Station) (m : ℕ) (desks store list : List ℕ) : Type 0 where
  pub station : t ≡ w.station
  pub events : m ≡ n + length w.events
  pub desked : desks ≡ w.desks
  pub stored : store ≡ w.store
  pub listed : list ≡ put list₀ (3 * n) (flat w.events)

-- the packets from a place of the zone on were judged, up to a bad header at a place, or to what is left unfinished from there
pub record Stops (c : Channel) (s : Station) (zone : List ℕ) (from : ℕ) (store₀ : List ℕ) (n : ℕ) (list₀ : List ℕ) (t : Station) (m at : ℕ) (bad : Bool)
    (store list : List ℕ) : Type 0 where
  pub told : TellsJudged (judged_all c s store₀ (split (drop from zone)).packets) n list₀ t m store list
  pub spoilt : bad ≡ (split (drop from zone)).bad
  pub within : at ≤ length zone
  pub left : bad ≡ false → drop at zone ≡ (split (drop from zone)).left

-- what comes of octets that are read where the held octets of the frame's desk say
abbrev pub walked_on : Channel → Station → List ℕ → List ℕ → List ℕ → Accepted → Walked
walked_on c s desks store zone a =
    let r : Reading = reading (held_at s desks a.desk) zone a.pointer in
    walked_from c s desks store a r.events r.octets
