-- What each command prints. Assumes nothing.
use Rattle.std.specs.Prelude.{Bool, List, [], ◌∷◌, ◌++◌, ℕ, eqb, if◌then◌else◌}
use Rattle.crc.specs.Crc.{crc_of}
use Rattle.text.specs.Pieces.{spaced}
use Rattle.text.specs.Lines.{spaced_three, newline}
use Rattle.lines.specs.Lines.{answer_line}
use Rattle.stream.specs.declared.Hunter.{Hunter}
use Rattle.stream.specs.Hunter.{begun_by}
use Rattle.script.specs.declared.Command.{Command}
use Rattle.chase.specs.declared.Memory.{Memory}
use Rattle.chase.specs.Calls.{hunt_by, went_hunting}

-- "1, else 0"
abbrev pub as_number : Bool → ℕ
as_number b = if b then 1 else 0

-- a letter, three numbers, and "the CRC (as in 01)" of some octets
abbrev pub check_line : ℕ → ℕ → ℕ → ℕ → List ℕ → List ℕ
check_line letter a b c octets = letter ∷ [] ++ spaced_three a b c ++ spaced (crc_of octets) ++ newline

-- "N answer taken found check: the octets taken and whether a frame was found (1, else 0) ..; and the CRC (as in 01) of all 2,048 octets of the
-- buffer after the call"
abbrev pub hunt_line : Command → List ℕ → Memory → List ℕ
hunt_line x portion m =
    check_line 0x4E (hunt_by x portion m).answer (hunt_by x portion m).taken (as_number (hunt_by x portion m).found) (went_hunting x portion m).buffer

-- "H begun k waiting check: begun is 0 or 1, check is the CRC of its 1,024 octets"
abbrev pub hunter_line : Hunter → List ℕ
hunter_line h = check_line 0x48 (as_number h.begun) h.k h.waiting h.octets

-- by the letter; Q prints nothing
unfoldable pub printed : Command → List ℕ → Memory → List ℕ
printed x portion m =
    if eqb x.letter 0x42 then answer_line 0x42 (begun_by x.a).answer
    else if eqb x.letter 0x4E then hunt_line x portion m
    else if eqb x.letter 0x48 then hunter_line m.hunter
    else []
