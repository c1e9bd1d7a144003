-- `transport::fits` meets its contract: the flags choose the shape. Assumes nothing.
use native.Mathlib.Omega.{arith}
use Rattle.transport.specs.Shape.{fits}
use Rattle.transport.proofs.fits.Goals as goal

pub returns-in-1 : goal.returns-in-1
unfolding fits
returns-in-1 c = grind arith

pub returns-in-3 : goal.returns-in-3
unfolding fits
returns-in-3 c = grind arith

pub returns-in-0 : goal.returns-in-0
unfolding fits
returns-in-0 c = grind arith

pub returns-in-2 : goal.returns-in-2
unfolding fits
returns-in-2 c = grind arith

pub returns-in_default : goal.returns-in_default
unfolding fits
returns-in_default c = grind arith
