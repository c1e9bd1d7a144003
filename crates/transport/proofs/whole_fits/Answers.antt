-- `transport::whole_fits` meets its contract, by its tests. Assumes nothing.
use native.Mathlib.Omega.{arith}
use Rattle.transport.specs.Shape.{whole_fits}
use Rattle.transport.proofs.whole_fits.Goals as goal

pub returns-then-n-transport_size : goal.returns-then-n-transport_size
unfolding whole_fits
returns-then-n-transport_size c = grind arith

pub returns-else-n-transport_size : goal.returns-else-n-transport_size
unfolding whole_fits
returns-else-n-transport_size c = grind arith
