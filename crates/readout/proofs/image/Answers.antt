-- `readout::image` meets its contract. Assumes nothing.
use borrow.Author.Rules.{rules}
use Rattle.text.proofs.Following.{behind, nothing}
use Rattle.readout.specs.Readout.{image_text}
use Rattle.readout.proofs.image.Goals as goal

pub returns-in_default : goal.returns-in_default
unfolding image_text
returns-in_default c = (search rules, rw c.in_default.is (nothing _ _))

pub returns : goal.returns
unfolding image_text
returns c = (
  search rules,
  rw c.in-Some.is (behind c.with_three-third.ensures.1 c.number.ensures.1),
)
