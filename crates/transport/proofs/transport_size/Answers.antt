-- `transport::transport_size` meets its contract. Assumes nothing.
use borrow.Author.Rules.{rules}
use Rattle.transport.specs.Length.{transport_size}
use Rattle.transport.proofs.transport_size.Goals as goal

pub returns : goal.returns
unfolding transport_size
returns c = search rules
