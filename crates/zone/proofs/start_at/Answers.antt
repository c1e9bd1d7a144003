-- `zone::start_at` is the definition `start_at` of what the pointer means. Assumes nothing.
use mathlib.Core.Path.{◌≡◌, refl, sym, ap}
use Prim.Native.Nat.{ℕ}
use Rattle.frame.specs.declared.Pointer.{Pointer}
use Rattle.frame.specs.declared.Pointer.TheVariants.{Offset, NoStart, Refused}
use Rattle.zone.specs.Contract.{start_at}
use Rattle.zone.proofs.start_at.Goals as goal

-- a pointer that is no offset begins nowhere
nowhere : (p : Pointer) → ((n : ℕ) → p ≡ Offset n → ⊥) → 884 ≡ start_at p
unfolding start_at
nowhere (Offset n) f = absurd (f n refl)
nowhere NoStart f = refl
nowhere Refused f = refl

pub returns-in_default : goal.returns-in_default
returns-in_default c = nowhere c.args.pointer c.in_default.not-Offset

pub returns : goal.returns
unfolding start_at
returns c = sym (ap start_at c.in-Offset.is)
