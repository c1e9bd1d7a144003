-- How many octets follow a command of the script. Assumes nothing.
use Rattle.std.specs.Prelude.{Bool, ◌||◌, ℕ, ◌%◌, ◌^◌, eqb, leb, if◌then◌else◌, Option, Some, None}
use Rattle.script.specs.declared.Command.{Command}

-- the letters of the table that no payload follows: M, B, J, F, I, C, P, H
abbrev pub alone : ℕ → Bool
alone x =
    eqb x 0x4D || eqb x 0x42 || eqb x 0x4A || eqb x 0x46 || eqb x 0x49 || eqb x 0x43 || eqb x 0x50 || eqb x 0x48

-- "A letter that is not in the table, a limit exceeded .. ends the run"; W: "c octets follow as payload (c up to 32,768)"; E: "the lower two octets of
-- c say how many octets follow as payload"
unfoldable pub payload_of : Command → Option ℕ
payload_of x =
    if eqb x.letter 0x57 then if leb x.c 32768 then Some x.c else None
    else if eqb x.letter 0x45 then Some (x.c % 2 ^ 16)
    else if alone x.letter then Some 0
    else None
