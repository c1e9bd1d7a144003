-- `among` meets its contract: what the definition says of a list, `contains` says of the channels from place from on. Assumes nothing.
use mathlib.Core.Path.{◌≡◌, refl, ap, ◌∙◌}
use mathlib.Core.Bool.{◌||◌}
use mathlib.Core.List.{List, [], ◌∷◌}
use Prim.Native.Nat.{ℕ}
use lib.Dec.{eqb}
use lib.ListN.{drop}
use Rattle.std.specs.List.{list_any}
use Rattle.octets.proofs.Lists.{whole-rest}
use Rattle.state.specs.Decision.{among}
use Rattle.channels.proofs.among.Goals as goal

named : (c : ℕ) (xs : List ℕ) → list_any (λ (y : ℕ). eqb y c) xs ≡ among c xs
unfolding among
named c [] = refl
named c (x ∷ xs) = ap (λ b. eqb x c || b) (named c xs)

pub returns : goal.returns
returns c =
    let a = c.args in
    c.contains.ensures.value ∙ ap (list_any (λ y. eqb y a.c)) (whole-rest a.channels.now a.from) ∙ named a.c (drop a.from a.channels.now)
