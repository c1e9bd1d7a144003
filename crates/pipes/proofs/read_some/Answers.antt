-- `pipes::read_some` meets its contract: what was read is within the buffer, and of a read that failed nothing is. Assumes nothing.
use native.Mathlib.Omega.{arith}
use Rattle.pipes.proofs.read_some.Goals as goal

pub returns-in-Err : goal.returns-in-Err
returns-in-Err c = omega arith
