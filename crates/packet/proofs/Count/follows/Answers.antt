-- `packet::Count::follows` meets its contract, by that of `next`. Assumes nothing.
use mathlib.Core.Path.{ap}
use lib.Dec.{eqb}
use Rattle.packet.specs.declared.Count.{Count}
use Rattle.packet.specs.Kinds.{count_follows}
use Rattle.packet.proofs.Count.follows.Goals as goal

pub returns : goal.returns
unfolding count_follows
returns c = rw c.eq.ensures (ap (λ (n : Count). eqb c.args.self.0 n.0) c.next.ensures)
