-- The octets of a held file. Assumes nothing.
use mathlib.Core.List.{List, flat_map}
use Rattle.std.specs.Prelude.{ℕ, ◌*◌, take, drop}
use Rattle.octets.specs.Number.{part}
use Rattle.transport.specs.Length.{octets_of_bits}
use Rattle.state.specs.declared.Station.{Station}
use Rattle.state.specs.Slots.{slot_at}
use Rattle.state.specs.Blocks.{blocks_of}

-- the 8,190 octets of block b
abbrev pub block_octets : List ℕ → ℕ → List ℕ
block_octets store b = part (8190 * b) 8190 store

-- blocks one after the other
unfoldable pub joined : List ℕ → List ℕ → List ℕ
joined store bs = flat_map (block_octets store) bs

-- the file in slot k: its blocks in order of place; "the ten transport octets don't count", and the file ends with its length
unfoldable pub file_octets : Station → List ℕ → ℕ → List ℕ
file_octets s store k = take (octets_of_bits (slot_at s k).bits) (drop 10 (joined store (blocks_of s k)))
