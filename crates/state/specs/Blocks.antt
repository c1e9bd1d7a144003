-- The store's blocks: which are free, which belong to a slot, and at which place. Assumes nothing.
--
-- The station keeps for each block its owner: 0 for a free block, else the number of its slot plus 1. A block's place is its rank among
-- the blocks of its slot, in rising order: the paper hands out "the N lowest free blocks, in rising order" and takes them back all at
-- once, so every state that a run can reach is told by the owners alone.
use Rattle.std.specs.Prelude.{◌≡◌, List, [], ◌∷◌, ℕ, suc, ◌+◌, ◌-◌, ◌<◌, eqb, length, get_or, take, if◌then◌else◌}
use Rattle.state.specs.declared.Slot.{Slot}
use Rattle.state.specs.declared.Station.{Station}
use Rattle.state.specs.Slots.{held, need_of}

-- the numbers, rising from i, of the entries of a table that are o
unfoldable pub numbers_of : ℕ → ℕ → List ℕ → List ℕ
numbers_of o i [] = []
numbers_of o i (x ∷ xs) = if eqb x o then i ∷ numbers_of o (suc i) xs else numbers_of o (suc i) xs

-- the owners of the store's blocks; what the array holds past the number of blocks is not judged
abbrev pub table : Station → List ℕ
table s = take s.blocks s.owner

-- the free blocks, rising
abbrev pub free_blocks : Station → List ℕ
free_blocks s = numbers_of 0 0 (table s)

-- the blocks of slot k, in order of place
abbrev pub blocks_of : Station → ℕ → List ℕ
blocks_of s k = numbers_of (suc k) 0 (table s)

-- block b stands at place i of slot k
pub record Stands (s : Station) (b k i : ℕ) : Type 0 where
  pub low : i < length (blocks_of s k)
  pub here : get_or (blocks_of s k) i 0 ≡ b

-- the needs of the held files, all together
unfoldable pub needs : List Slot → ℕ
needs [] = 0
needs (x ∷ xs) = (if held x then need_of x else 0) + needs xs

-- the room: "all blocks less the needs of the held files"
abbrev pub room : Station → ℕ
room s = s.blocks - needs s.slots
