-- `desk_of` meets its contract: the search is `position`, among the first n. Assumes nothing.
use Rattle.std.specs.Prelude.{if◌then◌else◌, cond, Bool, true, false, Some}
use Rattle.std.specs.List.{position_from}
use Rattle.std.proofs.lemmas.Iterator.{YieldsList-from_slice}
use Rattle.std.proofs.lemmas.Iterator.Adapters.{position_from-zero}
use Rattle.std.proofs.lemmas.Iterator.Search.{position_from_yields_List}
use mathlib.Core.Path.{◌≡◌, refl, ◌∙◌}
use mathlib.Core.List.{List, [], ◌∷◌}
use Prim.Native.Nat.{ℕ, suc, ◌+◌}
use native.Mathlib.Numerals.{add-one}
use native.Mathlib.Omega.{arith}
use lib.Dec.{eqb}
use lib.ListN.{take}
use Rattle.frame.specs.declared.Channel.{Channel}
use Rattle.frame.specs.Kinds.{desk_from, desk_of}
use Rattle.frame.proofs.desk_of.Goals as goal

abbrev named : Channel → Channel → Bool
named c w = eqb w.0 c.0

searched : (c : Channel) (k : ℕ) (ws : List Channel) → position_from (named c) k ws ≡ desk_from k ws c
unfolding desk_from
searched c k [] = refl
searched c k (w ∷ ws) =
    elim (named c w) as (λ b. cond b (Some k) (position_from (named c) (k + 1) ws) ≡ (if b then Some k else desk_from (suc k) ws c))
    [ true ↦ refl | false ↦ rw add-one (searched c (suc k) ws) ]

pub returns : goal.returns
unfolding desk_of
returns c =
    let f = named c.args.channel in
    let ws = take c.args.n c.args.watched in
    let e =
    position_from_yields_List f _ _ c.position.result c.position.ensures.ran (YieldsList-from_slice ws cc) (λ x b q k. grind arith) in
    e ∙ position_from-zero f ws ∙ searched c.args.channel 0 ws
