-- `clerk::answers::spaced_all` meets its contract. Assumes nothing.
use native.Mathlib.Omega.{arith}
use borrow.Author.Rules.{rules}
use Rattle.clerk.proofs.Saying.{spacing-none, spacing-more, spacing-all}
use Rattle.clerk.proofs.answers.spaced_all.Goals as goal

pub loop-n-init : goal.loop-n-init
loop-n-init c = spacing-none _ _ _

pub loop-n-preserved : goal.loop-n-preserved
loop-n-preserved c = spacing-more c.loop-n.invariant (omega arith) (omega (arith, c.number-end.ensures.0)) (search rules) c.number-end.ensures.1

pub returns : goal.returns
returns c = (search rules, spacing-all c.loop-n.invariant (omega arith))
