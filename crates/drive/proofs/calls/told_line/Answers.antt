-- `drive::calls::told_line` meets its contract. Assumes nothing.
use native.Mathlib.Omega.{arith}
use Rattle.drive.proofs.Outcomes.{refused-told, known-told}
use Rattle.drive.proofs.calls.told_line.Goals as goal

pub returns-in-Err : goal.returns-in-Err
returns-in-Err c =
    let line = c.answer_line.ensures in
    (omega (arith, line.0), refused-told c.in-Err.is line.1)

pub returns-in-Ok : goal.returns-in-Ok
returns-in-Ok c =
    let line = c.told_line.ensures in
    (omega (arith, line.0), known-told c.in-Ok.is line.1)
