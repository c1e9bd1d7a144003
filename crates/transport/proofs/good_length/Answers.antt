-- `transport::good_length` meets its contract, by its test. Assumes nothing.
use Rattle.octets.proofs.Tests.{tests}
use Rattle.transport.specs.Length.{good_length}
use Rattle.transport.proofs.good_length.Goals as goal

pub returns : goal.returns
unfolding good_length
returns c = search tests
