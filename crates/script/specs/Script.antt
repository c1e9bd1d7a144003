-- A command of the script, and how many octets follow it. Assumes nothing.
use Rattle.std.specs.Prelude.{Bool, ◌&&◌, ◌||◌, List, ℕ, eqb, leb, get_or, if◌then◌else◌, Option, Some, None}
use Rattle.octets.specs.Number.{number_at}
use Rattle.script.specs.declared.Command.{Command}

-- "A command is 16 octets, most significant octet first: letter (1), a (1), b (2), c (4), d (8)."
abbrev pub command_of : List ℕ → Command
command_of xs =
    record { letter = get_or xs 0 0; a = get_or xs 1 0; b = number_at xs 2 2; c = number_at xs 4 4; d = number_at xs 8 8 }

-- the letters of the table that no payload follows and that have no limit: M, L, I, P, Q, H
abbrev pub alone : ℕ → Bool
alone x = eqb x 0x4D || eqb x 0x4C || eqb x 0x49 || eqb x 0x50 || eqb x 0x51 || eqb x 0x48

-- "A letter that is not in the table, a limit exceeded .. ends the run"; S: "b channel octets that follow as payload (b up to 64)"; F: "b
-- event numbers lent (up to 1,200 ..), c octets follow as payload (up to 2,048)"; R: "c octets (up to 16,384)"
unfoldable pub payload_of : Command → Option ℕ
payload_of x =
    if eqb x.letter 0x53 then if leb x.b 64 then Some x.b else None
    else if eqb x.letter 0x46 then if leb x.b 1200 && leb x.c 2048 then Some x.c else None
    else if eqb x.letter 0x52 then if leb x.c 16384 then Some 0 else None
    else if alone x.letter then Some 0
    else None

abbrev pub count_of : Option ℕ → ℕ
count_of (Some n) = n
count_of None = 0
