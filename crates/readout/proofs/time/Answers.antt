-- `readout::time` meets its contract. Assumes nothing.
use borrow.Author.Rules.{rules}
use Rattle.text.proofs.Following.{nothing}
use Rattle.readout.specs.Readout.{time_text}
use Rattle.readout.proofs.time.Goals as goal

pub returns-in_default : goal.returns-in_default
unfolding time_text
returns-in_default c = (search rules, rw c.in_default.is (nothing _ _))

pub returns : goal.returns
unfolding time_text
returns c = (
  search rules,
  rw c.in-Some.is c.with_three.ensures.1,
)
