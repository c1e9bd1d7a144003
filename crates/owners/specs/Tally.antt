-- What a tally of the blocks' owners says. Assumes nothing.
use Rattle.std.specs.Prelude.{◌≡◌, List, ℕ, ◌<◌, length, get_or}
use Rattle.state.specs.Blocks.{numbers_of}

-- a tally of a table: for each octet, how many entries are that octet
abbrev pub Tallies : List ℕ → List ℕ → Type 0
Tallies t tally = (o : ℕ) → o < 256 → get_or tally o 0 ≡ length (numbers_of o 0 t)
