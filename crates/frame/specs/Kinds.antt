-- Channel numbers and frame counters. Assumes nothing.
use Rattle.std.specs.Prelude.{Bool, List, [], ◌∷◌, ℕ, suc, ◌+◌, ◌%◌, leb, ltb, eqb, if◌then◌else◌, Option, Some, None}
use Rattle.frame.specs.declared.Channel.{Channel}
use Rattle.frame.specs.declared.Counter.{Counter}

-- "channels 0 to 62"
abbrev pub checked_channel : ℕ → Option Channel
checked_channel n = if leb n 62 then Some (record { 0 = n }) else None

-- the frame counter runs modulo 2^24
abbrev pub checked_counter : ℕ → Option Counter
checked_counter n = if ltb n 0x1000000 then Some (record { 0 = n }) else None

-- "the last plus 1 modulo 2^24"
abbrev pub next_counter : Counter → Counter
next_counter c = record { 0 = (c.0 + 1) % 0x1000000 }

unfoldable pub counter_follows : Counter → Counter → Bool
counter_follows last c = eqb c.0 (next_counter last).0

-- the desk of a channel: its place, counted from i, among the channels watched, "in the order named"
unfoldable pub desk_from : ℕ → List Channel → Channel → Option ℕ
desk_from i [] c = None
desk_from i (w ∷ ws) c = if eqb w.0 c.0 then Some i else desk_from (suc i) ws c

unfoldable pub desk_of : List Channel → Channel → Option ℕ
desk_of ws c = desk_from 0 ws c
