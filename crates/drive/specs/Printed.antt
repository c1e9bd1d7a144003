-- What each command prints. Assumes nothing.
use Rattle.std.specs.Prelude.{List, [], ℕ, eqb, if◌then◌else◌, Result}
use Rattle.refusals.specs.declared.Refusal.{Refusal}
use Rattle.facts.specs.declared.Facts.{Facts}
use Rattle.lines.specs.Lines.{answer_line, frame_lines, read_line, let_go_line, told_line}
use Rattle.show.specs.Shown.{shown}
use Rattle.station.specs.Frame.{FrameOutcome}
use Rattle.station.specs.declared.LetGo.{LetGo}
use Rattle.station.specs.Files.{ReadOutcome, told_number, told_values}
use Rattle.script.specs.declared.Command.{Command}
use Rattle.script.specs.Memory.{Memory, lent_desks, lent_store}
use Rattle.drive.specs.Calls.{set_up_by, frame_by, read_by, let_go_by, told_by}

-- "F answer count", and the lines of the events, of what comes of a frame
abbrev pub frame_printed : FrameOutcome → List ℕ
frame_printed o = frame_lines o.answer o.events o.list

-- "R answer", and the octets, of what comes of a read
abbrev pub read_printed : ReadOutcome → List ℕ
read_printed o = read_line o.answer o.buffer

-- "L answer", and the report, of what comes of letting a file go
abbrev pub let_go_printed : LetGo → List ℕ
let_go_printed o = let_go_line o.answer o.complete

-- "I answer", and the facts, of what is told of a file
abbrev pub told_printed : Result Facts Refusal → List ℕ
told_printed o = told_line (told_number o) (told_values o)

-- H: "shows everything", of the desks and of the store what is lent
abbrev pub shown_by : Memory → List ℕ
shown_by w = shown w.station (lent_desks w) (lent_store w)

-- by the letter; M, P and Q print nothing
unfoldable pub printed : Command → List ℕ → Memory → List ℕ
printed x payload w =
    if eqb x.letter 0x53 then answer_line 0x53 (set_up_by x payload w).answer
    else if eqb x.letter 0x46 then frame_printed (frame_by x payload w)
    else if eqb x.letter 0x52 then read_printed (read_by x w)
    else if eqb x.letter 0x4C then let_go_printed (let_go_by x w)
    else if eqb x.letter 0x49 then told_printed (told_by x w)
    else if eqb x.letter 0x48 then shown_by w
    else []
