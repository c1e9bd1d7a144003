-- `transport::octets_of_bits` meets its contract. Assumes nothing.
use borrow.Author.Rules.{rules}
use Rattle.transport.specs.Length.{octets_of_bits}
use Rattle.transport.proofs.octets_of_bits.Goals as goal

pub returns : goal.returns
unfolding octets_of_bits
returns c = search rules
