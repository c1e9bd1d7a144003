-- `no_strays` meets its contract. The invariant: the tally from 33 on is blank exactly if the "or" so far is 0 and what is left is blank.
-- Assumes nothing.
use mathlib.Core.Path.{refl}
use native.Mathlib.Omega.{arith}
use Rattle.octets.proofs.Zero.{gather-more, gather-all}
use Rattle.owners.proofs.no_strays.Goals as goal

pub loop-o-init : goal.loop-o-init
loop-o-init c = refl

pub loop-o-preserved : goal.loop-o-preserved
loop-o-preserved c = gather-more c.args.tally 256 _ c.loop-o.any c.loop-o.o c.loop-o.invariant (omega arith) (omega arith)

pub returns : goal.returns
returns c = gather-all c.args.tally 256 _ c.loop-o.any c.loop-o.o c.loop-o.invariant (omega arith)
