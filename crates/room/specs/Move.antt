-- Blocks that change their owner. Assumes nothing.
use Rattle.std.specs.Prelude.{List, [], ◌∷◌, ℕ, suc, set, take}
use Rattle.state.specs.declared.Slot.{Slot}
use Rattle.state.specs.declared.Station.{Station}
use Rattle.state.specs.Slots.{no_file, need_of, head_of, station_of}
use Rattle.state.specs.Blocks.{free_blocks, blocks_of}

-- the owners after the blocks of a list went to o
unfoldable pub given : ℕ → List ℕ → List ℕ → List ℕ
given o [] owner = owner
given o (b ∷ bs) owner = given o bs (set owner b o)

-- the station with other owners and another file in slot k
abbrev pub with_file : Station → List ℕ → ℕ → Slot → Station
with_file s owner k x = station_of (head_of s) owner (set s.slots k x)

-- a file opened in slot k: "the N lowest free blocks, in rising order"
unfoldable pub opened : Station → ℕ → Slot → Station
opened s k x = with_file s (given (suc k) (take (need_of x) (free_blocks s)) s.owner) k x

-- "An abandoned, dropped or released file frees its slot and blocks": what 01 calls dropped or released is let go (02, 3/14)
unfoldable pub let_go : Station → ℕ → Station
let_go s k = with_file s (given 0 (blocks_of s k) s.owner) k no_file
