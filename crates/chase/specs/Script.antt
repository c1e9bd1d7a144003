-- How many octets follow a command of the script. Assumes nothing.
use Rattle.std.specs.Prelude.{Bool, ◌&&◌, ◌||◌, ℕ, eqb, leb, if◌then◌else◌, Option, Some, None}
use Rattle.script.specs.declared.Command.{Command}

-- the letters of the table that no payload follows and that have no limit: B, Q, H
abbrev pub alone : ℕ → Bool
alone x = eqb x 0x42 || eqb x 0x51 || eqb x 0x48

-- "A letter that is not in the table, a limit exceeded .. ends the run"; N: "b up to 2,048", "the c octets that follow as payload .. (c up to
-- 8,192)"
unfoldable pub payload_of : Command → Option ℕ
payload_of x =
    if eqb x.letter 0x4E then if leb x.b 2048 && leb x.c 8192 then Some x.c else None
    else if alone x.letter then Some 0
    else None
