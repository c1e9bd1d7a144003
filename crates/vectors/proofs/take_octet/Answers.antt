-- `vectors::take_octet` meets its contract. Assumes nothing.
use borrow.Author.Tests.{eq-eqb, ne_eqb}
use Rattle.vectors.specs.Kept.{came}
use Rattle.vectors.proofs.take_octet.Goals as goal

pub returns-then-x-eq10 : goal.returns-then-x-eq10
unfolding came
returns-then-x-eq10 c = rw (eq-eqb _ _ c.if-x-eq10.true, c.end_line.ensures)

pub returns : goal.returns
unfolding came
returns c =
    rw (ne_eqb _ _ c.if-x-eq10.false, c.gather.ensures.value, c.gather.ensures.line_after)
