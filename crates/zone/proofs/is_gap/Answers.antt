-- `zone::is_gap` is the definition `gap`. Assumes nothing.
use borrow.Author.Rules.{rules}
use Rattle.zone.specs.Walk.{gap}
use Rattle.zone.proofs.is_gap.Goals as goal

pub returns-then-d : goal.returns-then-d
unfolding gap
returns-then-d c = rw (c.if-d.true, c.follows.ensures)

pub returns-else-d : goal.returns-else-d
unfolding gap
returns-else-d c = search rules
