-- What a frame that is not refused does ("Frames", 4 to 6). Assumes nothing.
use Rattle.std.specs.Prelude.{Bool, true, not, ◌&&◌, List, [], ◌∷◌, ◌++◌, ℕ, ◌-◌, ◌*◌, length, replicate, if◌then◌else◌}
use Rattle.octets.specs.Number.{part}
use Rattle.octets.specs.Buffer.{put}
use Rattle.frame.specs.declared.Accepted.{Accepted}
use Rattle.frame.specs.declared.Channel.{Channel}
use Rattle.frame.specs.declared.Counter.{Counter}
use Rattle.frame.specs.Kinds.{counter_follows}
use Rattle.state.specs.declared.Desk.{Desk}
use Rattle.state.specs.declared.Station.{Station}
use Rattle.state.specs.Slots.{desk_at, head_of, station_of, on_desk}
use Rattle.events.specs.Event.{Event, bare}
use Rattle.judge.specs.Judge.{Judged, gives, after, judged}
use Rattle.zone.specs.Zone.{Split, split, Reading, reading}

-- packets of channel c, one after the other
unfoldable pub judged_all : Channel → Station → List ℕ → List (List ℕ) → Judged
judged_all c s store [] = gives s store []
judged_all c s store (p ∷ ps) =
    let j : Judged = judged c s store p in
    after j.events (judged_all c j.station j.store ps)

-- "if a frame was seen before and the counter is not the last plus 1 modulo 2^24"
unfoldable pub gap : Desk → Counter → Bool
gap d c = d.seen && not (counter_follows d.counter c)

-- "event 1, and the held octets are dropped"
abbrev pub gap_events : Bool → List Event
gap_events g = if g then bare 1 ∷ [] else []

-- the octets that desk i holds
abbrev pub held_at : Station → List ℕ → ℕ → List ℕ
held_at s desks i = part (8198 * i) (desk_at s i).held desks

-- rules 4 and 5: what comes first, and the octets to be read
unfoldable pub reading_of : Station → List ℕ → List ℕ → Accepted → Reading
reading_of s desks zone a =
    let g : Bool = gap (desk_at s a.desk) a.counter in
    let r : Reading = reading (if g then [] else held_at s desks a.desk) zone a.pointer in
    record { events = gap_events g ++ r.events; octets = r.octets }

-- desk i with other octets held, zeros after them
abbrev pub with_held : List ℕ → ℕ → List ℕ → List ℕ
with_held desks i left = put desks (8198 * i) (left ++ replicate (8198 - length left) 0)

abbrev pub with_desk : Station → ℕ → Desk → Station
with_desk s i d = station_of (on_desk (head_of s) i d) s.owner s.slots

-- a desk after a frame: so many octets held, a frame seen, and "this counter is now the last"
abbrev pub desk_after : Accepted → ℕ → Desk
desk_after a n = record { held = n; seen = true; counter = a.counter }

-- everything that comes of it
pub record Walked : Type 0 where
  pub station : Station
  pub desks : List ℕ
  pub store : List ℕ
  pub events : List Event

-- "a bad header met later in the zone gives event 3"
abbrev pub bad_events : Bool → List Event
bad_events b = if b then bare 3 ∷ [] else []

-- the packets, one after the other, behind the events es; what is left unfinished is held
abbrev pub walked_by : Channel → Station → List ℕ → List ℕ → Accepted → List Event → Split → Walked
walked_by c s desks store a es sp =
    let j : Judged = judged_all c s store sp.packets in
    record {
      station = with_desk j.station a.desk (desk_after a (length sp.left));
      desks = with_held desks a.desk sp.left;
      store = j.store;
      events = es ++ j.events ++ bad_events sp.bad;
    }

-- all that comes of octets that are read from their first on, behind the events es
abbrev pub walked_from : Channel → Station → List ℕ → List ℕ → Accepted → List Event → List ℕ → Walked
walked_from c s desks store a es xs = walked_by c s desks store a es (split xs)

-- a frame that is not refused
unfoldable pub walked : Channel → Station → List ℕ → List ℕ → List ℕ → Accepted → Walked
walked c s desks store zone a =
    let r : Reading = reading_of s desks zone a in
    walked_from c s desks store a r.events r.octets
