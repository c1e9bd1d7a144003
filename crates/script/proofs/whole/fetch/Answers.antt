-- `script::whole::fetch` meets its contract. Assumes nothing.
use mathlib.Core.Path.{sym, ◌∙◌}
use native.Mathlib.Omega.{arith}
use Rattle.script.proofs.Following.{next-whole}
use Rattle.script.proofs.whole.fetch.Goals as goal

pub returns : goal.returns
returns g c = next-whole _ c.args.script.now c.args.at c.read-x.ensures (sym c.in_ok-k.was ∙ c.payload.ensures) (omega arith)
