-- `image_fields` meets its contract: the record's fields, where there is a record. Assumes nothing.
use native.Mathlib.Omega.{arith}
use Rattle.std.proofs.lemmas.Grind.{common_steps}
use Rattle.fields.proofs.image_fields.Goals as goal

pub returns : goal.returns
returns c = grind (arith, common_steps)
