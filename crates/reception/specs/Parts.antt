-- What comes out of the frame call, from the parts of a state that it was made on. Assumes nothing.
use Rattle.std.specs.Prelude.{List, ℕ}
use Rattle.state.specs.declared.Head.{Head}
use Rattle.state.specs.Slots.{station_of}
use Rattle.zone.specs.Walk.{with_desk}
use Rattle.station.specs.Frame.{FrameOutcome, frame_gives}
use Rattle.reception.specs.declared.Outcome.{Outcome}

-- a frame can change the owners, the slots, and what the state keeps of one desk
abbrev pub outcome_of : Head → List ℕ → Outcome → List ℕ → List ℕ → List ℕ → FrameOutcome
outcome_of head owner o desks store list =
    frame_gives o.answer o.events (with_desk (station_of head owner o.slots) o.desk o.position) desks store list
