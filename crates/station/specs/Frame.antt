-- The frame call. Assumes nothing.
use Rattle.std.specs.Prelude.{Bool, not, ◌&&◌, List, ℕ, leb, length, get_or, take, if◌then◌else◌, Result, Ok, Err}
use Rattle.octets.specs.Buffer.{put}
use Rattle.refusals.specs.declared.Refusal.{Refusal}
use Rattle.refusals.specs.Refusals.{refuse}
use Rattle.frame.specs.declared.Channel.{Channel}
use Rattle.frame.specs.Header.{derandomised, zone_of}
use Rattle.frame.specs.Refusals.{examined}
use Rattle.state.specs.declared.Station.{Station}
use Rattle.state.specs.Decision.{is_sound, are_desks_sound}
use Rattle.events.specs.Event.{flat}
use Rattle.frame.specs.declared.Accepted.{Accepted}
use Rattle.zone.specs.Walk.{Walked, walked}
use Rattle.station.specs.SetUp.{desks_fit, channel_of}
use Rattle.station.specs.Files.{store_fits}

-- everything that comes out of a frame call; the frame is lent for reading
pub record FrameOutcome : Type 0 where
  pub answer : ℕ
  pub events : ℕ
  pub station : Station
  pub desks : List ℕ
  pub store : List ℕ
  pub list : List ℕ

abbrev pub frame_gives : ℕ → ℕ → Station → List ℕ → List ℕ → List ℕ → FrameOutcome
frame_gives n count s desks store list =
    record { answer = n; events = count; station = s; desks = desks; store = store; list = list }

-- "1: desks not 8,198 octets a channel; store not whole blocks, 1 to 4,096, as many as at set-up; for a frame, fewer than 900 event numbers"
abbrev pub lent_right : Station → List ℕ → List ℕ → List ℕ → Bool
lent_right s desks store list = desks_fit s.channels desks && store_fits s.blocks store && leb 900 (length list)

-- the channel of desk i
abbrev pub channel_at : Station → ℕ → Channel
channel_at s i = get_or s.watched i (channel_of 0)

-- refusals 1 to 9: "The lowest number that applies is given"
unfoldable pub admitted : Station → List ℕ → List ℕ → List ℕ → List ℕ → Result Accepted Refusal
admitted s desks store list f =
    if not (lent_right s desks store list) then refuse 1
    else if not (is_sound s && are_desks_sound s desks) then refuse 2
    else examined s.spacecraft (take s.channels s.watched) f

-- "After 0 the events fill the list from its start and the rest of it stays."
abbrev pub taken : Station → List ℕ → Walked → FrameOutcome
taken s list w = frame_gives 0 (length w.events) w.station w.desks w.store (put list 0 (flat w.events))

-- "Every number but 0 carries no other result and changes nothing"
unfoldable pub examined_frame : Station → List ℕ → List ℕ → List ℕ → List ℕ → Result Accepted Refusal → FrameOutcome
examined_frame s desks store list f (Err n) = frame_gives n.0 0 s desks store list
examined_frame s desks store list f (Ok a) =
    taken s list (walked (channel_at s a.desk) s desks store (zone_of (derandomised f)) a)

unfoldable pub framed : Station → List ℕ → List ℕ → List ℕ → List ℕ → FrameOutcome
framed s desks store list f = examined_frame s desks store list f (admitted s desks store list f)
