-- "three to an event: kind, application, slot". Assumes nothing.
use mathlib.Core.List.{List, [], ◌∷◌, flat_map, Memᴰ}
use Rattle.std.specs.Prelude.{ℕ}

pub record Event : Type 0 where
  pub kind : ℕ
  pub application : ℕ
  pub slot : ℕ

-- "Events 1, 2 and 3 carry 0 and 0"
abbrev pub bare : ℕ → Event
bare n = record { kind = n; application = 0; slot = 0 }

-- "events 4, 5, 7, 8, 9 and 13 carry the application and 0"
abbrev pub of : ℕ → ℕ → Event
of n a = record { kind = n; application = a; slot = 0 }

-- "events 6 and 10 to 12 carry both"
abbrev pub at : ℕ → ℕ → ℕ → Event
at n a k = record { kind = n; application = a; slot = k }

abbrev pub numbers : Event → List ℕ
numbers e = e.kind ∷ e.application ∷ e.slot ∷ []

-- an event is one of some
abbrev pub Among : Event → List Event → Type 0
Among e es = Memᴰ e es

-- the events as the list holds them
unfoldable pub flat : List Event → List ℕ
flat es = flat_map numbers es
