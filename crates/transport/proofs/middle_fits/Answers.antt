-- `transport::middle_fits` meets its contract, by its tests. Assumes nothing.
use native.Mathlib.Omega.{arith}
use Rattle.transport.specs.Shape.{middle_fits}
use Rattle.transport.proofs.middle_fits.Goals as goal

pub returns-then-n-eq-BLOCK : goal.returns-then-n-eq-BLOCK
unfolding middle_fits
returns-then-n-eq-BLOCK c = grind arith

pub returns-else-n-eq-BLOCK : goal.returns-else-n-eq-BLOCK
unfolding middle_fits
returns-else-n-eq-BLOCK c = grind arith
