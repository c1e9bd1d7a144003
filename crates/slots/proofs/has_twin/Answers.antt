-- `has_twin` meets its contract: a twin is any of the slots behind that passes the test. Assumes nothing.
use mathlib.Core.Path.{◌≡◌, refl, ◌∙◌}
use mathlib.Core.Bool.{Bool, ◌&&◌, and_comm}
use mathlib.Core.List.{List, [], ◌∷◌}
use native.Mathlib.Omega.{arith}
use Rattle.std.specs.List.{list_any}
use Rattle.std.proofs.lemmas.Iterator.{YieldsList-from_slice}
use Rattle.std.proofs.lemmas.Iterator.Search.{any_from_yields_List}
use Rattle.state.specs.declared.Slot.{Slot}
use Rattle.state.specs.Slots.{incomplete, of_pair}
use Rattle.state.specs.Decision.{twin_in}
use Rattle.slots.proofs.has_twin.Goals as goal

abbrev is_twin : Slot → Slot → Bool
is_twin x y = of_pair x.channel x.application y && incomplete y

any-twin : (x : Slot) (ys : List Slot) → list_any (is_twin x) ys ≡ twin_in x ys
unfolding twin_in
any-twin x [] = refl
any-twin x (y ∷ ys) = rw (any-twin x ys, and_comm (of_pair x.channel x.application y))

pub returns-then-is_incomplete : goal.returns-then-is_incomplete
returns-then-is_incomplete c =
    let x = c.args.x in
    let ys = c.args.behind.now in
    rw (← c.if-is_incomplete.ensures)
    (any_from_yields_List (is_twin x) _ _ c.any.result c.any.ensures.ran (YieldsList-from_slice ys cc) (λ y b q k. grind arith) ∙ any-twin x ys)

pub returns-else-is_incomplete : goal.returns-else-is_incomplete
returns-else-is_incomplete c = rw (c.is_incomplete.ensures, ← c.if-is_incomplete.ensures)
