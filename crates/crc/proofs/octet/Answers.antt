-- `crc::octet` meets its contract. The loop's invariant: what is wanted is what the bits that are left make of the register.
-- Assumes nothing.
use mathlib.Core.Path.{◌≡◌, sym, ◌∙◌, ap}
use Prim.Native.Nat.{ℕ, suc, ◌+◌, ◌-◌, ◌*◌, ◌%◌, ◌≤◌, ◌<◌}
use native.Mathlib.Omega.{arith}
use lib.Bits.{bit_xor}
use Rattle.crc.specs.Crc.{bit, shifted, octet}
use Rattle.crc.proofs.octet.Goals as goal

-- an octet is not cut off where it moves up to the register's top
enters : (c x : ℕ) → x < 0x100 → octet c x ≡ shifted 8 (bit_xor c (x * 0x100 % 0x10000))
unfolding octet
enters c x h =
    let whole : x * 0x100 ≡ x * 0x100 % 0x10000 = omega arith in
    ap (λ (y : ℕ). shifted 8 (bit_xor c y)) whole

one_more : (i r s t : ℕ) → i < 8 → t ≡ shifted (8 - i) r → s ≡ bit r → t ≡ shifted (8 - (i + 1)) s
unfolding shifted
one_more i r s t h e f =
    let left : 8 - i ≡ suc (8 - (i + 1)) = omega arith in
    rw f (e ∙ ap (λ (n : ℕ). shifted n r) left)

none_left : (i r t : ℕ) → 8 ≤ i → t ≡ shifted (8 - i) r → r ≡ t
unfolding shifted
none_left i r t h e =
    let left : 8 - i ≡ 0 = omega arith in
    sym (e ∙ ap (λ (n : ℕ). shifted n r) left)

pub loop-init : goal.loop-init
loop-init c = enters _ _ (omega arith)

pub loop-preserved : goal.loop-preserved
loop-preserved c = one_more _ _ _ _ (omega arith) c.loop.invariant c.step-r.ensures

pub returns : goal.returns
returns c = none_left c.loop.counter _ _ (omega arith) c.loop.invariant
