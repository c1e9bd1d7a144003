-- What the program says of a frame call, as the call's contract has it. Assumes nothing.
use mathlib.Core.Path.{◌≡◌, ap}
use mathlib.Core.List.{List}
use Prim.Native.Nat.{ℕ}
use Rattle.state.specs.declared.Station.{Station}
use Rattle.station.specs.Frame.{FrameOutcome, frame_gives}
use Rattle.receive.specs.Told.{frame_text, outcome_text}

-- the text of what the call answered is the text of its outcome
pub told : {n k : ℕ} {s₁ : Station} {desks₁ store₁ list₁ : List ℕ} {o : FrameOutcome} (index : ℕ) → frame_gives n k s₁ desks₁ store₁ list₁ ≡ o
    → frame_text index n k list₁ ≡ outcome_text index o
told index e = ap (outcome_text index) e
