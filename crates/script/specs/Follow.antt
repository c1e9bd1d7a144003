-- A script that is read whole and followed command by command (docs/STREAM.md, docs/CATALOGUE.md): what a program owns, how many octets follow a
-- command of its table, and what a command does and prints are parameters of everything here. Assumes nothing.
use Rattle.std.specs.Prelude.{List, ℕ, zero, suc, ◌+◌, leb, length, take, drop, if◌then◌else◌, Option, Some, None}
use Rattle.octets.specs.Number.{part}
use Rattle.octets.specs.Buffer.{put}
use Rattle.script.specs.declared.Command.{Command}
use Rattle.script.specs.declared.whole.Ended.{Ended}
use Rattle.script.specs.Script.{command_of}

-- "a payload cut short ends the run": whether a command and so many octets behind it are there, where so many octets are left
abbrev pub next_by : ℕ → Command → Option ℕ → Option (Command × ℕ)
next_by left x (Some k) = if leb (16 + k) left then Some (x, k) else None
next_by left x None = None

-- "A command is 16 octets"; "a last one of under 16 octets" is none
unfoldable pub next_of : (Command → Option ℕ) → List ℕ → Option (Command × ℕ)
next_of payload rest =
    if leb 16 (length rest) then next_by (length rest) (command_of (take 16 rest)) (payload (command_of (take 16 rest))) else None

-- "n commands carried out, m octets of the script not used", and what is owned then
pub record Followed (M : Type 0) : Type 0 where
  pub memory : M
  pub commands : ℕ
  pub unused : ℕ

abbrev pub leaves : {M : Type 0} → M → ℕ → List ℕ → Followed M
leaves m n rest = record { memory = m; commands = n; unused = length rest }

-- the rest of a script, after n commands, in so many steps at most; "The command that ends the run .. is not counted in n, and all its octets and
-- all behind them count in m"
unfoldable pub followed_in : {M : Type 0} → (Command → Option ℕ) → (Command → List ℕ → M → M) → ℕ → M → ℕ → List ℕ → Followed M
followed_in payload does zero m n rest = leaves m n rest
followed_in payload does (suc steps) m n rest =
    elim (next_of payload rest) [
      | None ↦ leaves m n rest
      | Some (x, k) ↦ followed_in payload does steps (does x (part 16 k rest) m) (suc n) (drop (16 + k) rest)
    ]

-- a command has an octet at least, so that these steps are enough
unfoldable pub followed : {M : Type 0} → (Command → Option ℕ) → (Command → List ℕ → M → M) → M → List ℕ → Followed M
followed payload does m script = followed_in payload does (length script) m 0 script

-- a command with a buffer at whose start its text is put: "what" of its row for what is owned, and "prints" for the buffer
abbrev pub with_text : {M : Type 0} → (Command → List ℕ → M → M) → (Command → List ℕ → M → List ℕ) → Command → List ℕ → M × List ℕ → M × List ℕ
with_text does prints x payload s = (does x payload s.0, put s.1 0 (prints x payload s.0))

-- that buffer after a script: the texts of the commands carried out, each put over the one before; the command that ends the run "prints nothing"
unfoldable pub text_left : {M : Type 0} → (Command → Option ℕ) → (Command → List ℕ → M → M) → (Command → List ℕ → M → List ℕ)
    → M → List ℕ → List ℕ → List ℕ
text_left payload does prints m script out = (followed payload (with_text does prints) (m, out) script).memory.1

-- what a run answers, beside what it leaves of what is owned
abbrev pub ended : {M : Type 0} → M → Ended → Followed M
ended m r = record { memory = m; commands = r.commands; unused = r.unused }
