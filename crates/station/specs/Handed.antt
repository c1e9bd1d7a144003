-- What a caller goes on with after a frame call. Assumes nothing.
use Rattle.std.specs.Prelude.{◌≡◌, List, ℕ}
use Rattle.state.specs.declared.Station.{Station}
use Rattle.station.specs.Frame.{FrameOutcome}

-- "with state and memory handed back untouched": state, desks and store are those that come of the call
abbrev pub WentOn : FrameOutcome → Station → List ℕ → List ℕ → Type 0
WentOn o s desks store = (s ≡ o.station) × (desks ≡ o.desks) × (store ≡ o.store)
