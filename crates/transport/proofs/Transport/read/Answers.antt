-- `transport::Transport::read` meets its contract, field by field. Assumes nothing.
use Rattle.transport.specs.Length.{transport_of}
use Rattle.transport.proofs.Transport.read.Goals as goal

pub returns : goal.returns
unfolding transport_of
returns c = λ i. record { counter = c.u16_at.ensures i; bits = c.u64_at.ensures i }
