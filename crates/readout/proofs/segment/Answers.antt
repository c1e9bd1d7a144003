-- `readout::segment` meets its contract. Assumes nothing.
use borrow.Author.Rules.{rules}
use Rattle.text.proofs.Following.{nothing}
use Rattle.readout.specs.Readout.{segment_text}
use Rattle.readout.proofs.segment.Goals as goal

pub returns-in_default : goal.returns-in_default
unfolding segment_text
returns-in_default c = (search rules, rw c.in_default.is (nothing _ _))

pub returns : goal.returns
unfolding segment_text
returns c = (
  search rules,
  rw c.in-Some.is c.with_three.ensures.1,
)
