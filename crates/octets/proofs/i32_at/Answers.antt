-- `octets::i32_at` meets its contract. Assumes nothing.
use mathlib.Core.Path.{◌∙◌, ap}
use native.Mathlib.Omega.{arith}
use Rattle.octets.specs.Number.{signed}
use Rattle.octets.proofs.Signed.{signed-cast}
use Rattle.octets.proofs.i32_at.Goals as goal

pub returns : goal.returns
returns c = signed-cast _ (omega arith) c.cast_signed.ensures ∙ ap signed c.u32_at.ensures
