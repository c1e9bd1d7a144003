-- What the function that puts a desk in order asks and promises. Assumes nothing.
use Rattle.std.specs.Prelude.{◌≡◌, Bool, List, [], ℕ, ◌+◌, ◌*◌, ◌≤◌, ◌<◌, length, drop, if◌then◌else◌}
use Rattle.octets.specs.Buffer.{put}
use Rattle.events.specs.Event.{flat}
use Rattle.zone.specs.Walk.{with_held, bad_events}

-- a desk of eight, a place of a zone, and room for one event more
pub record Settling (i : ℕ) (zone : List ℕ) (at : ℕ) (desks list : List ℕ) (n : ℕ) : Type 0 where
  pub low : i < 8
  pub frame : length zone ≡ 884
  pub within : at ≤ length zone
  pub desked : 8198 * i + 8198 ≤ length desks
  pub room : 3 * (n + 1) ≤ length list

-- what is held of a zone: "drops the rest of the zone" at a bad header, else what is left unfinished from the place on
abbrev pub left_at : Bool → ℕ → List ℕ → List ℕ
left_at bad at zone = if bad then [] else drop at zone

pub record Settles (i : ℕ) (zone : List ℕ) (at : ℕ) (bad : Bool) (desks₀ list₀ : List ℕ) (n held m : ℕ) (desks list : List ℕ) : Type 0 where
  pub holds : held ≡ length (left_at bad at zone)
  pub counted : m ≡ n + length (bad_events bad)
  pub desked : desks ≡ with_held desks₀ i (left_at bad at zone)
  pub listed : list ≡ put list₀ (3 * n) (flat (bad_events bad))
