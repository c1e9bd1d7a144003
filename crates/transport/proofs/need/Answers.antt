-- `transport::need` meets its contract. Assumes nothing.
use borrow.Author.Rules.{rules}
use Rattle.transport.specs.Length.{need}
use Rattle.transport.proofs.need.Goals as goal

pub returns : goal.returns
unfolding need
returns c = search rules
