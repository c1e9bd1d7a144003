-- What a frame call answers is what its caller goes on with. Assumes nothing.
use mathlib.Core.Path.{◌≡◌, ap}
use mathlib.Core.List.{List}
use Prim.Native.Nat.{ℕ}
use Rattle.state.specs.declared.Station.{Station}
use Rattle.station.specs.Frame.{FrameOutcome, frame_gives}
use Rattle.station.specs.Handed.{WentOn}

pub went_on : {n k : ℕ} {s₁ : Station} {desks₁ store₁ list₁ : List ℕ} {o : FrameOutcome} → frame_gives n k s₁ desks₁ store₁ list₁ ≡ o
    → WentOn o s₁ desks₁ store₁
went_on e =
    (ap (λ (o : FrameOutcome). o.station) e, ap (λ (o : FrameOutcome). o.desks) e, ap (λ (o : FrameOutcome). o.store) e)
