-- `room::file_of` meets its contract: the search is `position`. Assumes nothing.
use mathlib.Core.Path.{sym, ◌∙◌}
use native.Mathlib.Omega.{arith}
use Rattle.std.proofs.lemmas.Iterator.{YieldsList-from_slice}
use Rattle.std.proofs.lemmas.Iterator.Search.{position_from_yields_List}
use Rattle.room.proofs.Find.{sought, file-first, found_first}
use Rattle.room.proofs.file_of.Goals as goal

pub returns : goal.returns
returns c =
    let a = c.args in
    let f = sought a.channel a.application in
    let e =
    position_from_yields_List f _ _ c.position.result c.position.ensures.ran (YieldsList-from_slice a.slots cc) (λ x b q k. grind arith) in
    found_first f a.slots e ∙ sym (file-first a.channel a.application 0 a.slots)
