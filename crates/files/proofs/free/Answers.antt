-- `free` meets its contract, by that of `let_go`. Assumes nothing.
use mathlib.Core.Path.{◌≡◌, refl}
use mathlib.Core.Bool.{Bool}
use mathlib.Core.List.{List}
use Prim.Native.Nat.{ℕ}
use borrow.Author.Rules.{rules}
use Rattle.state.specs.declared.Slot.{Slot}
use Rattle.state.specs.declared.Station.{Station}
use Rattle.state.specs.Slots.{head_of, station_of}
use Rattle.room.specs.Move.{let_go}
use Rattle.station.specs.Files.{freed}
use Rattle.files.proofs.free.Goals as goal

-- the owners of the blocks apart from the rest, so that a block that is kept is named where it is refused
module _ (s : Station) (k : ℕ) (whole : Bool) where
  goes : {o p : List ℕ} {xs : List Slot} → station_of (head_of s) p xs ≡ let_go s k → o ≡ p
      → record { answer = 0; complete = whole; station = station_of (head_of s) o xs } ≡ freed s k whole
  goes e f = rw (f, e)

pub let_go-after-requires : goal.let_go-after-requires
let_go-after-requires c = rw c.head.ensures (search rules)

pub returns : goal.returns
returns c = goes _ _ _ (rw c.head.ensures at c.let_go-after.ensures) refl
