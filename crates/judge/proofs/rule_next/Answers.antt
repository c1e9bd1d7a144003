-- `judge::rule_next` meets its contract. Assumes nothing.
use mathlib.Core.Path.{sym, ◌∙◌}
use Rattle.judge.specs.Judge.{goes_on}
use Rattle.judge.proofs.Rulings.{next-goes, next-ends}
use Rattle.judge.proofs.rule_next.Goals as goal

pub returns-then-fits : goal.returns-then-fits
unfolding goes_on
returns-then-fits c = next-goes _ _ _ _ (sym c.fits.ensures ∙ c.if-fits.true)

pub returns-else-fits : goal.returns-else-fits
unfolding goes_on
returns-else-fits c = next-ends _ _ _ _ (sym c.fits.ensures ∙ c.if-fits.false)
