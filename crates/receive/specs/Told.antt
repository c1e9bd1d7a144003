-- What the program prints. Assumes nothing.
use Rattle.std.specs.Prelude.{List, [], ◌∷◌, ◌++◌, ℕ}
use Rattle.text.specs.Lines.{spaced_three, newline}
use Rattle.lines.specs.Lines.{event_lines}
use Rattle.station.specs.Frame.{FrameOutcome}

-- "F, index, answer and event count of a frame; E and the numbers of an event"
abbrev pub frame_text : ℕ → ℕ → ℕ → List ℕ → List ℕ
frame_text index answer events list = 0x46 ∷ [] ++ spaced_three index answer events ++ newline ++ event_lines events list

-- what is printed of a frame, from what comes of it
abbrev pub outcome_text : ℕ → FrameOutcome → List ℕ
outcome_text index o = frame_text index o.answer o.events o.list
