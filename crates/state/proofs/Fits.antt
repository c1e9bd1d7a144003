-- What the types of an array of slots say of a slot in it. Assumes nothing.
use mathlib.Core.List.{List, [], ◌∷◌}
use Prim.Native.Nat.{ℕ, zero, suc, ◌^◌, ◌<◌}
use native.Mathlib.Omega.{arith}
use lib.Dec.{lit<}
use lib.ListN.{get_or}
use mir.Val.{Val}
use denote.Shadow.{shadow}
use denote.Array.{each}
use borrow.Kind.Array.{e_struct}
use Rattle.state.specs.declared.Slot.{Slot}
use Rattle.state.specs.Slots.{no_file}
use Rattle.state.specs.contracts.Slot.{the_type}
use Rattle.state.proofs.Slot.TheLaws.{the_laws, the_copy}

-- the slots are values of their type, as a function learns of an array that it is handed
abbrev pub AreSlots : List Slot → List Val → Type 0
AreSlots xs us = shadow (each Slot (e_struct the_type the_laws the_copy).ty.own_val xs us)

pub bits_fit : (xs : List Slot) (us : List Val) (k : ℕ) → AreSlots xs us → (get_or xs k no_file).bits < 2 ^ 64
bits_fit [] us k p = lit< tt
bits_fit (x ∷ xs) [] k p = absurd p
bits_fit (x ∷ xs) (u ∷ us) zero p = omega (arith, p.0)
bits_fit (x ∷ xs) (u ∷ us) (suc k) p = bits_fit xs us k p.1
