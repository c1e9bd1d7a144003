-- `octets::blank` meets its contract: the part that is lent holds zeros alone afterwards. Assumes nothing.
use native.Mathlib.Omega.{arith}
use Rattle.octets.proofs.Put.{fill_lent}
use Rattle.octets.proofs.blank.Goals as goal

pub returns : goal.returns
returns c = fill_lent 0 c.args.n _ c.args.at _ (c.fill.ensures.after (λ y e. e)) (omega arith) (omega arith)
