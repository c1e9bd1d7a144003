-- `ask_complete` meets its contract: each case of what `ask` tells is a clause of what is made of it. Assumes nothing.
use Rattle.std.specs.Prelude.{Ok}
use mathlib.Core.Path.{refl, ap, ◌∙◌}
use Rattle.refusals.proofs.Passing.{passed_on}
use Rattle.octets.proofs.Tests.{denied, granted}
use Rattle.files.proofs.Reading.{misfit, as-told}
use Rattle.files.proofs.ask_complete.Goals as goal

pub returns-then-not-store_fits : goal.returns-then-not-store_fits
returns-then-not-store_fits c = misfit c.args.s _ _ (search denied)

pub returns-in_err-k : goal.returns-in_err-k
returns-in_err-k c = as-told _ _ _ (search granted) c.ask.ensures c.in_err-k.was (passed_on _ c.from_residual.ensures.1)

pub returns-in-Complete : goal.returns-in-Complete
returns-in-Complete c = as-told _ _ _ (search granted) c.ask.ensures (c.in_ok-k.was ∙ ap Ok c.in-Complete.is) refl

pub returns-in-Incomplete : goal.returns-in-Incomplete
returns-in-Incomplete c = as-told _ _ _ (search granted) c.ask.ensures (c.in_ok-k.was ∙ ap Ok c.in-Incomplete.is) refl
