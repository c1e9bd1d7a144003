-- A whole script, command by command, as script/specs/Follow has it. Assumes nothing.
use Rattle.std.specs.Prelude.{List, ℕ, replicate}
use Rattle.lines.specs.Lines.{end_line}
use Rattle.script.specs.Follow.{Followed, followed}
use Rattle.clerk.specs.declared.Memory.{Memory}
use Rattle.clerk.specs.Script.{payload_of}
use Rattle.clerk.specs.Calls.{carried_out}

-- what a script leaves of what is owned, and its two numbers
abbrev pub entered : Memory → List ℕ → Followed Memory
entered m script = followed payload_of carried_out m script

-- "It owns a buffer of 32,768 octets, all zero at the start, and two numbers, 0 at the start"
abbrev pub at_start : List ℕ → Memory
at_start buffer = record { buffer = buffer; lent = 0; used = 0 }

abbrev pub from_nothing : List ℕ → Followed Memory
from_nothing script = entered (at_start (replicate 32768 0)) script

-- "The last line is END n m"
unfoldable pub last_line : List ℕ → List ℕ
last_line script = end_line (from_nothing script).commands (from_nothing script).unused
