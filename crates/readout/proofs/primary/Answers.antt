-- `readout::primary` meets its contract. Assumes nothing.
use borrow.Author.Rules.{rules}
use Rattle.readout.specs.Readout.{primary_text}
use Rattle.readout.proofs.primary.Goals as goal

pub returns : goal.returns
unfolding primary_text
returns c = (search rules, c.with_three.ensures.1)
