-- `show::is_all_zero` meets its contract: a slot whose fields are all zero is the free one. Assumes nothing.
use mathlib.Core.Bool.{and_assoc}
use Rattle.show.specs.Shown.{all_fields_zero}
use Rattle.show.proofs.is_all_zero.Goals as goal

pub returns : goal.returns
unfolding all_fields_zero
returns c = rw (c.eq.ensures, c.none.ensures) (simp and_assoc)
