-- What each command prints. Assumes nothing.
use Rattle.std.specs.Prelude.{◌≡◌, ℕ, ◌≤◌, min, eqb, take, if◌then◌else◌}
use mathlib.Core.List.{List, [], ◌∷◌, ◌++◌, flat_map}
use Rattle.crc.specs.Crc.{crc_of}
use Rattle.text.specs.Pieces.{spaced}
use Rattle.text.specs.Lines.{newline}
use Rattle.script.specs.declared.Command.{Command}
use Rattle.catalogue.specs.Asking.{catalogue_read, file_asked, image_asked, channel_asked}
use Rattle.catalogue.specs.Answers.{entered_said, read_said, file_said, image_said, channel_said}
use Rattle.clerk.specs.declared.answers.Said.{Said}
use Rattle.clerk.specs.declared.Memory.{Memory}
use Rattle.clerk.specs.Calls.{begins_in, enters_in}

-- "`J`, `F`, `I` and `C` are lent the octets of the catalogue: the first so many of those lent, or all that are lent if it is said to have more"
abbrev pub handed_in : Memory → List ℕ
handed_in m = take (min m.used m.lent) m.buffer

-- the numbers behind the letter of a question, each an answer and the values behind it: J, F, I and C; M, W and P have none
unfoldable pub asked : ℕ → ℕ → List ℕ → List ℕ
asked letter n xs =
    if eqb letter 0x4A then read_said (catalogue_read xs)
    else if eqb letter 0x46 then file_said (file_asked xs n)
    else if eqb letter 0x49 then image_said (image_asked xs n)
    else if eqb letter 0x43 then channel_said (channel_asked xs n)
    else []

-- "H lent octets check: the octets lent, those of the catalogue, and the CRC (as in 01) of all 32,768 octets of the buffer"
abbrev pub shown : Memory → List ℕ
shown m = m.lent ∷ m.used ∷ crc_of m.buffer ∷ []

-- H, and the questions, each of entry d
unfoldable pub answered : Command → Memory → List ℕ
answered x m = if eqb x.letter 0x48 then shown m else asked x.letter x.d (handed_in m)

-- by the letter: B, E, and the others
unfoldable pub said : Command → List ℕ → Memory → List ℕ
said x payload m =
    if eqb x.letter 0x42 then entered_said (begins_in m).answer
    else if eqb x.letter 0x45 then entered_said (enters_in x payload m).answer
    else answered x m

-- a letter and the numbers behind it, "one space between, one newline after each line"; a command that has nothing to say prints "nothing"
abbrev pub said_line : ℕ → List ℕ → List ℕ
said_line letter [] = []
said_line letter (n ∷ ns) = letter ∷ [] ++ flat_map spaced (n ∷ ns) ++ newline

-- the letter of each line is the command's own
unfoldable pub printed : Command → List ℕ → Memory → List ℕ
printed x payload m = said_line x.letter (said x payload m)

-- the numbers of a line, at the start of an array
pub record Says (s : Said) (ns : List ℕ) : Type 0 where
  pub few : s.count ≤ 6
  pub gives : take s.count s.numbers ≡ ns
