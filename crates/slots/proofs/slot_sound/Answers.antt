-- `slot_sound` meets its contract: a free slot by that of `free_sound`, a held one by that of `held_sound`. Assumes nothing.
use mathlib.Core.Path.{◌≡◌, sym, ◌∙◌}
use mathlib.Core.Bool.{true}
use mathlib.Core.List.{List}
use Prim.Native.Nat.{ℕ}
use borrow.Author.Tests.{eq-eqb, ne_eqb}
use Rattle.state.specs.declared.Slot.{Slot}
use Rattle.state.specs.Slots.{held}
use Rattle.state.specs.Decision.{free_sound, slot_sound}
use Rattle.slots.proofs.slot_sound.Goals as goal

is_held : (x : Slot) → (x.accepted ≡ 0 → ⊥) → held x ≡ true
unfolding held
is_held x f = rw (ne_eqb _ _ f)

is_free : (channels : List ℕ) (n : ℕ) (x : Slot) → x.accepted ≡ 0 → slot_sound channels n x ≡ free_sound n x
unfolding slot_sound held
is_free channels n x e = rw (eq-eqb _ _ e)

pub returns-then-x-eq0 : goal.returns-then-x-eq0
returns-then-x-eq0 c = c.free_sound.ensures ∙ sym (is_free _ _ _ c.if-x-eq0.true)

pub held_sound-requires : goal.held_sound-requires
held_sound-requires c = (is_held _ c.if-x-eq0.false, c.need-need.ensures)
