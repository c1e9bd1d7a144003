-- `free_sound` meets its contract: the "or" of four numbers is 0 exactly if each is. Assumes nothing.
use mathlib.Core.Path.{◌≡◌, refl, sym, ap, ap₂, ◌∙◌}
use mathlib.Core.Bool.{Bool, true, false, ◌&&◌, and-true, and-false}
use Prim.Native.Nat.{ℕ}
use native.Mathlib.Omega.{arith}
use borrow.Author.Tests.{eq-eqb, ne_eqb}
use lib.Bits.{bit_or}
use lib.Dec.{eqb}
use Rattle.octets.proofs.Zero.{or-zero}
use Rattle.state.specs.declared.Slot.{Slot}
use Rattle.state.specs.Decision.{free_sound}
use Rattle.slots.proofs.free_sound.Goals as goal

third_last : (a b c d e : Bool) → (a && b && c && d && e) ≡ ((a && b) && (d && e) && c)
third_last true true true d e = sym (and-true (d && e))
third_last true true false d e = sym (and-false (d && e))
third_last true false c d e = refl
third_last false b c d e = refl

or-told : (a b c d : ℕ) → eqb (bit_or (bit_or a b) (bit_or c d)) 0 ≡ ((eqb a 0 && eqb b 0) && (eqb c 0 && eqb d 0))
or-told a b c d = or-zero (bit_or a b) (bit_or c d) ∙ ap₂ ◌&&◌ (or-zero a b) (or-zero c d)

free-told : (n : ℕ) (x : Slot)
    → free_sound n x ≡ (eqb (bit_or (bit_or x.channel.0 x.application.0) (bit_or x.count.0 n)) 0 && eqb x.bits 0)
free-told n x =
    third_last (eqb x.channel.0 0) (eqb x.application.0 0) (eqb x.bits 0) (eqb x.count.0 0) (eqb n 0)
    ∙ ap (λ (t : Bool). t && eqb x.bits 0) (sym (or-told x.channel.0 x.application.0 x.count.0 n))

module _ (n : ℕ) (x : Slot) where
  abbrev gathered : ℕ
  gathered = bit_or (bit_or x.channel.0 x.application.0) (bit_or x.count.0 n)

  some : (gathered ≡ 0 → ⊥) → free_sound n x ≡ false
  some f = free-told n x ∙ rw (ne_eqb gathered 0 f)

  none : gathered ≡ 0 → free_sound n x ≡ eqb x.bits 0
  none e = free-told n x ∙ rw (eq-eqb gathered 0 e)

pub returns-then-channel-application-ne0 : goal.returns-then-channel-application-ne0
returns-then-channel-application-ne0 c =
    let a = c.args in
    sym (some a.n a.x (omega arith))

pub returns : goal.returns
returns c =
    let a = c.args in
    sym (none a.n a.x (omega arith))
