-- What happens to a station, one thing after the other: the packets that a frame brings, the desk that it leaves, and the files that the
-- user lets go. A run of calls is a list of such things (proofs/Moments.antt), so what holds of each of them holds of every run.
-- Assumes nothing.
use Rattle.std.specs.Prelude.{List, [], ◌∷◌, ◌++◌, map, ℕ, eqb, length, take, if◌then◌else◌, Result, Ok, Err}
use Rattle.refusals.specs.declared.Refusal.{Refusal}
use Rattle.frame.specs.declared.Accepted.{Accepted}
use Rattle.frame.specs.declared.Channel.{Channel}
use Rattle.frame.specs.Header.{derandomised, zone_of}
use Rattle.frame.specs.Refusals.{examined}
use Rattle.state.specs.declared.Desk.{Desk}
use Rattle.state.specs.declared.Station.{Station}
use Rattle.room.specs.Move.{let_go}
use Rattle.events.specs.Event.{Event}
use Rattle.judge.specs.Judge.{Judged, gives, after, judged}
use Rattle.zone.specs.Zone.{Split, split}
use Rattle.zone.specs.Walk.{reading_of, with_desk, desk_after, walked}
use Rattle.station.specs.Frame.{channel_at}
use Rattle.history.specs.Run as run
use Rattle.history.specs.Run.{World, Call, answer}
use Rattle.history.specs.Run.Call.{frame, read, let-go}

pub data Thing : Type 0 where
  -- a whole packet of a channel is judged
  packet : Channel → List ℕ → Thing
  -- a frame is read to its end, and its desk set in order: no file is touched
  left : ℕ → Desk → Thing
  -- the file of a slot is let go by the user
  gone : ℕ → Thing

-- what comes of a thing
unfoldable pub did : Station → List ℕ → Thing → Judged
did s store (packet c p) = judged c s store p
did s store (left i d) = gives (with_desk s i d) store []
did s store (gone k) = gives (let_go s k) store []

-- of things, first to last
unfoldable pub did_all : Station → List ℕ → List Thing → Judged
did_all s store [] = gives s store []
did_all s store (t ∷ ts) =
    let j : Judged = did s store t in
    after j.events (did_all j.station j.store ts)

-- a frame, examined against the station's set-up
abbrev pub examined_in : World → List ℕ → Result Accepted Refusal
examined_in w f = examined w.station.spacecraft (take w.station.channels w.station.watched) f

abbrev pub split_in : World → List ℕ → Accepted → Split
split_in w f a = split (reading_of w.station w.desks (zone_of (derandomised f)) a).octets

-- the packets of a frame, in order, and then its desk
abbrev pub framed_things : World → List ℕ → Result Accepted Refusal → List Thing
framed_things w f (Err n) = []
framed_things w f (Ok a) =
    map (packet (channel_at w.station a.desk)) (split_in w f a).packets
    ++ (left a.desk (desk_after a (length (split_in w f a).left)) ∷ [])

-- the things of a call: none, if it is refused
unfoldable pub things : World → Call → List Thing
things w (frame f list) = if eqb (answer w (frame f list)) 0 then framed_things w f (examined_in w f) else []
things w (read k offset buffer) = []
things w (let-go k) = if eqb (answer w (let-go k)) 0 then gone k ∷ [] else []

-- of a run
unfoldable pub all_things : World → List Call → List Thing
all_things w [] = []
all_things w (c ∷ cs) = things w c ++ all_things (run.after w c) cs

abbrev pub framed_events : World → List ℕ → Result Accepted Refusal → List Event
framed_events w f (Err n) = []
framed_events w f (Ok a) =
    (walked (channel_at w.station a.desk) w.station w.desks w.store (zone_of (derandomised f)) a).events

-- the events that a call gives: a frame that is answered by 0 has them in its list
unfoldable pub said : World → Call → List Event
said w (frame f list) = if eqb (answer w (frame f list)) 0 then framed_events w f (examined_in w f) else []
said w (read k offset buffer) = []
said w (let-go k) = []
