-- docs/VECTORS.md, "The script": how a line is kept while its octets come, and what is printed at its end. Assumes nothing.
use Rattle.std.specs.Prelude.{◌||◌, List, [], ◌∷◌, ◌++◌, ℕ, ◌+◌, eqb, ltb, length, get_or, set, if◌then◌else◌}
use Prim.Native.Char.{code}
use Rattle.octets.specs.Buffer.{put}
use Rattle.text.specs.Lines.{newline}
use Rattle.vectors.specs.Answers.{line_answer, answer_of}

-- a line that has begun: how many octets it has, the buffer that keeps them, and the one from which answers are printed
pub record Kept : Type 0 where
  pub held : ℕ
  pub line : List ℕ
  pub out : List ℕ

abbrev pub kept : ℕ → List ℕ → List ℕ → Kept
kept held line out = record { held = held; line = line; out = out }

-- one octet more, of which 2,050 can belong to a question: 2,051 stands for every greater number
abbrev pub one_more : ℕ → ℕ
one_more held = if ltb held 2050 then held + 1 else 2051

-- "An empty line, and a line whose first octet is `#`, is passed over and prints nothing. Any other line is a question", and has its answer
abbrev pub printed_if : ℕ → ℕ → List ℕ → List ℕ
printed_if count first answer = if eqb count 0 || eqb first (code "#") then [] else answer ++ newline

unfoldable pub printed : List ℕ → ℕ → List ℕ
printed line held = printed_if held (get_or line 0 0) (answer_of line held)

-- the same of a line as it stands in the script
unfoldable pub line_printed : List ℕ → List ℕ
line_printed line = printed_if (length line) (get_or line 0 0) (line_answer line)

-- "Lines of ASCII, each ended by a newline (0A)": an octet that comes
unfoldable pub came : ℕ → Kept → Kept
came x k =
    if eqb x 0x0A then kept 0 k.line (put k.out 0 (printed k.line k.held))
    else kept (one_more k.held) (set k.line k.held x) k.out

-- octets that come one after the other
unfoldable pub all_came : List ℕ → Kept → Kept
all_came [] k = k
all_came (x ∷ xs) k = all_came xs (came x k)

-- what is printed of a script while its octets come, from a line that has begun
unfoldable pub printed_by : List ℕ → Kept → List ℕ
printed_by [] k = []
printed_by (x ∷ xs) k = (if eqb x 0x0A then printed k.line k.held else []) ++ printed_by xs (came x k)

-- "prints one line for each question": of a script, behind the octets of the line that has begun. "Octets after the last newline are not a
-- line: they are passed over."
unfoldable pub script_printed : List ℕ → List ℕ → List ℕ
script_printed line [] = []
script_printed line (x ∷ xs) = if eqb x 0x0A then line_printed line ++ script_printed [] xs else script_printed (line ++ x ∷ []) xs
