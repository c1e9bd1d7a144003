-- `transport::last_fits` meets its contract, by its tests. Assumes nothing.
use native.Mathlib.Omega.{arith}
use Rattle.transport.specs.Shape.{last_fits}
use Rattle.transport.proofs.last_fits.Goals as goal

pub returns-then-accepted-need : goal.returns-then-accepted-need
unfolding last_fits
returns-then-accepted-need c = grind arith

pub returns-else-accepted-need : goal.returns-else-accepted-need
unfolding last_fits
returns-else-accepted-need c = grind arith
