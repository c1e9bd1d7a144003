-- Desks with an octet that is not zero behind what is held are not sound. Assumes nothing.
use mathlib.Core.Path.{◌≡◌, sym, ◌∙◌}
use mathlib.Core.Bool.{true}
use mathlib.Core.List.{List}
use Prim.Native.Nat.{ℕ, ◌*◌}
use native.Mathlib.Omega.{arith}
use lib.ListN.{length}
use Rattle.octets.proofs.Lists.{part_at}
use Rattle.state.specs.declared.Station.{Station}
use Rattle.state.specs.Sound.{Sized, Sound, DesksSound}
use Rattle.state.specs.Plainly.{Stray}
use Rattle.state.specs.Decision.{are_desks_sound}
use Rattle.state.proofs.Exactly.{desks-yes}

pub stray-unsound : {s : Station} {desks : List ℕ} → Stray s desks → DesksSound s desks → ⊥
stray-unsound {s} {desks} y d =
    y.marked
    (sym (part_at desks (8198 * y.desk) 8198 y.place 0 (omega (arith, y.within)))
    ∙ (d.octets y.desk y.watched).zeros y.place (omega (arith, y.behind)))

pub stray-refused : {s : Station} {desks : List ℕ} → Sized s → Sound s → length desks ≡ 8198 * s.channels → Stray s desks
    → are_desks_sound s desks ≡ true → ⊥
stray-refused {s} {desks} z S l y e = stray-unsound y (desks-yes desks z S l e)
