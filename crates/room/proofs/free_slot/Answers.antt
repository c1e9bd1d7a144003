-- `room::free_slot` meets its contract: the search is `position`. Assumes nothing.
use mathlib.Core.Path.{sym, ◌∙◌}
use native.Mathlib.Omega.{arith}
use Rattle.std.proofs.lemmas.Iterator.{YieldsList-from_slice}
use Rattle.std.proofs.lemmas.Iterator.Search.{position_from_yields_List}
use Rattle.room.proofs.Find.{free, free-first, found_first}
use Rattle.room.proofs.free_slot.Goals as goal

pub returns : goal.returns
returns c =
    let xs = c.args.slots in
    let e =
    position_from_yields_List free _ _ c.position.result c.position.ensures.ran (YieldsList-from_slice xs cc) (λ x b q k. grind arith) in
    found_first free xs e ∙ sym (free-first 0 xs)
