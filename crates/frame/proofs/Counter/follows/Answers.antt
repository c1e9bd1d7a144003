-- `Counter::follows` meets its contract, by what `next` ensures. Assumes nothing.
use mathlib.Core.Path.{ap}
use lib.Dec.{eqb}
use Rattle.frame.specs.declared.Counter.{Counter}
use Rattle.frame.specs.Kinds.{counter_follows}
use Rattle.frame.proofs.Counter.follows.Goals as goal

pub returns : goal.returns
unfolding counter_follows
returns c = rw c.eq.ensures (ap (λ (n : Counter). eqb c.args.self.0 n.0) c.next.ensures)
