use mathlib.Core.Path.{◌∙◌}
use native.Mathlib.Omega.{arith}
use Rattle.sections.proofs.Moves.{moved}
use Rattle.sections.proofs.shift.Goals as goal

pub returns : goal.returns
returns c = c.copy_within.ensures.after ∙ moved _ c.args.at c.args.n _ (omega arith) (omega arith)
