-- `drive::calls::read_lent` meets its contract: the number is that of the answer, whichever arm gave it. Assumes nothing.
use mathlib.Core.Path.{◌≡◌}
use borrow.Author.Rules.{rules}
use Rattle.refusals.specs.Refusals.{answer_of}
use Rattle.drive.proofs.Outcomes.{read_told}
use Rattle.drive.proofs.calls.read_lent.Goals as goal
use Rattle.drive.proofs.calls.read_lent.Goals.{in-Ok, in-Err}

pub returns : goal.returns
returns c =
    let line = c.read_line.ensures in
    let number : c.match-read_file.answer ≡ answer_of c.read_file.result = elim c.match-read_file.branch [
      | in-Ok w ↦ rw (w.answer-is, w.in-Ok.is)
      | in-Err w ↦ rw (w.answer-is, w.in-Err.is)
    ] in
    (search rules, read_told (rw number c.read_file.ensures.outcome) line.1)
