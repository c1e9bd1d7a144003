-- `judge::rule_over` meets its contract: with its slot free, the needs are no greater. Assumes nothing.
use mathlib.Core.Path.{ap}
use native.Mathlib.Omega.{arith}
use Rattle.room.proofs.Find.{needs-lower}
use Rattle.judge.specs.declared.Place.{Place}
use Rattle.judge.specs.declared.Act.TheVariants.{Over}
use Rattle.judge.specs.declared.Ruling.TheVariants.{Does}
use Rattle.judge.proofs.rule_over.Goals as goal

pub place_of-requires : goal.place_of-requires
place_of-requires c =
    rw c.none.ensures (omega (arith, c.requires.1, needs-lower c.args.slots c.args.k))

pub returns : goal.returns
returns c = ap (λ (p : Place). Does (Over c.args.k p)) (rw c.none.ensures at c.place_of.ensures)
