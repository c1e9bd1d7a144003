-- `chase::calls::carry_out` meets its contract: a letter that is none of B, N and H prints nothing. Assumes nothing.
use native.Mathlib.Omega.{arith}
use borrow.Author.Rules.{rules}
use borrow.Author.Tests.{ne_eqb}
use Rattle.text.proofs.Following.{nothing}
use Rattle.chase.specs.Printed.{printed}
use Rattle.chase.proofs.calls.carry_out.Goals as goal

pub returns-in_default-clause-end_bound : goal.returns-in_default-clause-end_bound
unfolding printed
returns-in_default-clause-end_bound c = (omega arith, search (rules, ne_eqb, nothing c.args.out.now 0))
