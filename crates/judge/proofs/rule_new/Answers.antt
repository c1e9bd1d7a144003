-- `judge::rule_new` meets its contract. Assumes nothing.
use mathlib.Core.Path.{sym, ◌∙◌}
use Rattle.judge.proofs.Rulings.{new-denied, new-granted}
use Rattle.judge.proofs.rule_new.Goals as goal

pub returns-in-Denied : goal.returns-in-Denied
returns-in-Denied c = new-denied (sym c.place_of.ensures ∙ c.in-Denied.is)

pub returns-in-Granted : goal.returns-in-Granted
returns-in-Granted c = new-granted (sym c.place_of.ensures ∙ c.in-Granted.is)
