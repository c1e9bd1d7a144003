-- A whole script, command by command, as script/specs/Follow has it. Assumes nothing.
use Rattle.std.specs.Prelude.{List, ℕ, replicate}
use Rattle.lines.specs.Lines.{end_line}
use Rattle.script.specs.Follow.{Followed, followed}
use Rattle.stream.specs.Hunter.{no_hunter}
use Rattle.chase.specs.declared.Memory.{Memory}
use Rattle.chase.specs.Script.{payload_of}
use Rattle.chase.specs.Calls.{memory, carried_out}

-- what a script leaves of what is owned, and its two numbers
abbrev pub chased : Memory → List ℕ → Followed Memory
chased m script = followed payload_of carried_out m script

-- "It owns a hunter, all zero at the start, and a buffer of 2,048 octets, all zero at the start"
abbrev pub at_start : Memory
at_start = memory no_hunter (replicate 2048 0)

-- "The last line is END n m"
unfoldable pub last_line : List ℕ → List ℕ
last_line script = end_line (chased at_start script).commands (chased at_start script).unused
