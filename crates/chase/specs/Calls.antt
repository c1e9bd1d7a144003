-- What `chase` owns, and what a command does to it, by its letter. Assumes nothing.
use Rattle.std.specs.Prelude.{not, List, ◌++◌, ℕ, ◌%◌, ◌^◌, eqb, take, drop, set, if◌then◌else◌}
use Rattle.stream.specs.declared.Hunter.{Hunter}
use Rattle.stream.specs.Hunter.{HuntOutcome, begun_by, hunted}
use Rattle.script.specs.declared.Command.{Command}
use Rattle.chase.specs.declared.Memory.{Memory}

-- "It owns a hunter .. and a buffer of 2,048 octets"
abbrev pub memory : Hunter → List ℕ → Memory
memory h buffer = record { hunter = h; buffer = buffer }

-- B: "begin with k = a; the hunter is then what begin gave, also after a refusal"
unfoldable pub was_begun : Command → Memory → Memory
was_begun x m = memory (begun_by x.a).hunter m.buffer

-- N: "hunt: the first b octets of the buffer are lent .., and the c octets that follow as payload are the portion .."
abbrev pub hunt_by : Command → List ℕ → Memory → HuntOutcome
hunt_by x portion m = hunted m.hunter portion (take x.b m.buffer)

-- "the hunter is then what hunt gave"; of the buffer, what was lent is what hunt left there
unfoldable pub went_hunting : Command → List ℕ → Memory → Memory
went_hunting x portion m = memory (hunt_by x portion m).hunter ((hunt_by x portion m).buffer ++ drop x.b m.buffer)

-- Q: "a field of the hunter becomes d, modulo the field's width: a = 0 whether it was begun (any d but 0 is yes), 1 k (8 bits), 2 how many octets
-- wait (16 bits), 3 octet b of the 1,024 (8 bits); an index past them, or a over 3, does nothing": `set` past the end changes nothing
unfoldable pub poked : Command → Hunter → Hunter
poked x h =
    record {
      begun = if eqb x.a 0 then not (eqb x.d 0) else h.begun;
      k = if eqb x.a 1 then x.d % 2 ^ 8 else h.k;
      waiting = if eqb x.a 2 then x.d % 2 ^ 16 else h.waiting;
      octets = if eqb x.a 3 then set h.octets x.b (x.d % 2 ^ 8) else h.octets;
    }

-- by the letter: B, N and Q; H changes nothing
unfoldable pub carried_out : Command → List ℕ → Memory → Memory
carried_out x portion m =
    if eqb x.letter 0x42 then was_begun x m
    else if eqb x.letter 0x4E then went_hunting x portion m
    else if eqb x.letter 0x51 then memory (poked x m.hunter) m.buffer
    else m
