-- `ask::read` meets its contract. Assumes nothing.
use mathlib.Core.Path.{refl, ◌∙◌}
use Rattle.refusals.proofs.Passing.{passed_on}
use Rattle.catalogue.proofs.Asking.{read_none, read_all}
use Rattle.ask.proofs.Answered.{was-found, was-none}
use Rattle.ask.proofs.read.Goals as goal

pub returns-in_err-at : goal.returns-in_err-at
returns-in_err-at c =
    let n = was-none _ c.places.ensures c.in_err-at.was in
    passed_on _ c.from_residual.ensures.1 ∙ rw n.1 (read_none _ refl n.0)

pub returns : goal.returns
returns c = read_all _ refl (was-found _ c.places.ensures c.in_ok-at.was)
