-- An octet of the lent desks that should be zero and is not: no word of how one desk's octets are cut out or tried. Assumes nothing.
use Rattle.std.specs.Prelude.{◌≡◌, List, ℕ, ◌+◌, ◌*◌, ◌≤◌, ◌<◌, get_or}
use Rattle.state.specs.declared.Station.{Station}
use Rattle.state.specs.Slots.{desk_at}

-- "each desk holds 0 to 8,197 octets, zeros after them": desks of 8,198 octets one behind the other, of which one breaks this
pub record Stray (s : Station) (desks : List ℕ) : Type 0 where
  pub desk : ℕ
  pub place : ℕ
  pub watched : desk < s.channels
  pub behind : (desk_at s desk).held ≤ place
  pub within : place < 8198
  pub marked : get_or desks (8198 * desk + place) 0 ≡ 0 → ⊥
