-- `crc::step` meets its contract, by its test. Assumes nothing.
use borrow.Author.Tests.{lt-ltb, le-ltb}
use Rattle.crc.specs.Crc.{bit}
use Rattle.crc.proofs.step.Goals as goal

pub returns-then-c-lt32768 : goal.returns-then-c-lt32768
unfolding bit
returns-then-c-lt32768 c = simp (lt-ltb _ _ c.if-c-lt32768.true)

pub returns-else-c-lt32768 : goal.returns-else-c-lt32768
unfolding bit
returns-else-c-lt32768 c = simp (le-ltb _ _ c.if-c-lt32768.false)
