-- `desks_hold` meets its contract: `all` asks each of the first n desks. Assumes nothing.
use mathlib.Core.Path.{◌≡◌, refl, ap, ◌∙◌}
use mathlib.Core.Bool.{◌&&◌}
use mathlib.Core.List.{List, [], ◌∷◌}
use borrow.Author.Rules.{rules}
use lib.ListN.{take}
use Rattle.std.specs.List.{list_all}
use Rattle.std.proofs.lemmas.Iterator.{YieldsList-from_slice}
use Rattle.std.proofs.lemmas.Iterator.Search.{all_from_yields_List}
use Rattle.octets.specs.Each.{each}
use Rattle.state.specs.declared.Desk.{Desk}
use Rattle.state.specs.Decision.{desk_holds}
use Rattle.desks.proofs.desks_hold.Goals as goal

asked : (xs : List Desk) → list_all desk_holds xs ≡ each desk_holds xs
unfolding each
asked [] = refl
asked (x ∷ xs) = ap (λ b. desk_holds x && b) (asked xs)

pub returns : goal.returns
returns c =
    let xs = take c.args.n c.args.desks in
    all_from_yields_List desk_holds _ _ _ c.all.ensures.ran (YieldsList-from_slice xs cc) (λ x b q k. search rules) ∙ asked xs
