-- `pipes::write_all` meets its contract, by that of the writer; of a write that failed nothing is said. Assumes nothing.
use mathlib.Core.Bool.{false≢true}
use Rattle.pipes.proofs.write_all.Goals as goal

pub returns-in-Ok : goal.returns-in-Ok
returns-in-Ok g c = λ e. c.in-Ok.ensures.bytes

pub returns-in-Err : goal.returns-in-Err
returns-in-Err g c = λ e. absurd (false≢true e)
