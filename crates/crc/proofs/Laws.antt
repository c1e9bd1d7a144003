-- The register over joined octets, how large it can be, that data followed by its own check leaves it 0, and that zeros then do. Assumes nothing.
use Rattle.std.specs.Prelude.{if◌then◌else◌}
use mathlib.Core.Path.{◌≡◌, refl, sym, ap, ap₂, ◌∙◌}
use mathlib.Core.Bool.{Bool, true, false}
use mathlib.Core.List.{List, [], ◌∷◌, ◌++◌}
use Prim.Native.Nat.{ℕ, zero, suc, ◌+◌, ◌*◌, ◌/◌, ◌%◌, ◌^◌, ◌<◌, ◌≤◌}
use native.Mathlib.Nat.{mul_assoc, zero-add, pow-succ', le-mul_of_pos_right}
use native.Mathlib.Omega.{arith}
use borrow.Author.Tests.{lt-ltb}
use lib.Bits.{bit_xor, xor_lt, xor_block, xor_self, xor_zero_r}
use lib.Dec.{ltb}
use lib.ListN.{length, drop, replicate, drop_of_length-le}
use lib.Pow.{pow_pos}
use Rattle.crc.specs.Crc.{bit, shifted, octet, crc_from, crc_of}

-- running over two parts is running over them joined
pub crc-append : (c : ℕ) (xs ys : List ℕ) → crc_from c (xs ++ ys) ≡ crc_from (crc_from c xs) ys
unfolding crc_from
crc-append c [] ys = refl
crc-append c (x ∷ xs) ys = crc-append (octet c x) xs ys

-- where no octets are left the register is what was wanted
pub none_left : (xs : List ℕ) (c i t : ℕ) → length xs ≤ i → t ≡ crc_from c (drop i xs) → c ≡ t
unfolding crc_from
none_left xs c i t h e = sym (e ∙ ap (crc_from c) (drop_of_length-le xs h))

-- a register of 16 bits stays one
pub bit_below : (c : ℕ) → bit c < 0x10000
unfolding bit
bit_below c = go (ltb c 0x8000)
  where
    go : (test : Bool) → (if test then c * 2 % 0x10000 else bit_xor (c * 2 % 0x10000) 0x1021) < 0x10000
    go true = omega arith
    go false = xor_lt 16 (c * 2 % 0x10000) 0x1021 (omega arith) (omega arith)

shifted-below : (n c : ℕ) → c < 0x10000 → shifted n c < 0x10000
unfolding shifted
shifted-below zero c h = h
shifted-below (suc n) c h = shifted-below n (bit c) (bit_below c)

pub octet-below : (c x : ℕ) → octet c x < 0x10000
unfolding octet shifted
octet-below c x = shifted-below 7 (bit (bit_xor c (x * 0x100))) (bit_below (bit_xor c (x * 0x100)))

pub crc-below : (c : ℕ) (xs : List ℕ) → c < 0x10000 → crc_from c xs < 0x10000
unfolding crc_from
crc-below c [] h = h
crc-below c (x ∷ xs) h = crc-below (octet c x) xs (octet-below c x)

-- while no one falls out at the top, n bits are a factor of 2^n
pub none_out : (n c : ℕ) → c * 2 ^ n < 0x10000 → shifted n c ≡ c * 2 ^ n
unfolding shifted bit
none_out zero c h = omega arith
none_out (suc n) c h =
    let more : c * 2 ^ suc n ≡ c * 2 * 2 ^ n = rw (pow-succ', mul_assoc) in
    let low : c * 2 ≤ c * 2 * 2 ^ n = le-mul_of_pos_right (c * 2) (pow_pos n) in
    let moved : c * 2 % 0x10000 ≡ c * 2 = omega arith in
    rw (lt-ltb c 0x8000 (omega arith), moved, more) (none_out n (c * 2) (omega arith))

-- the upper octet of the register takes itself out, and the lower one moves up
upper-out : (r : ℕ) → octet r (r / 0x100) ≡ r % 0x100 * 0x100
unfolding octet
upper-out r =
    let parts : r ≡ r / 0x100 * 0x100 + r % 0x100 = omega arith in
    let upper : r / 0x100 * 0x100 ≡ r / 0x100 * 0x100 + 0 = omega arith in
    let lower : bit_xor r (r / 0x100 * 0x100) ≡ r % 0x100 =
    ap₂ bit_xor parts upper
    ∙ xor_block 8 (r / 0x100) (r / 0x100) (r % 0x100) 0 (omega arith) (omega arith)
    ∙ rw (xor_self, xor_zero_r, zero-add) in
    rw lower (none_out 8 (r % 0x100) (omega arith))

-- then the lower one does
lower-out : (x : ℕ) → octet (x * 0x100) x ≡ 0
unfolding octet shifted bit
lower-out x = rw xor_self

-- data followed by its own check, most significant octet first, leaves register 0
pub crc-own : (c : ℕ) (xs : List ℕ) → crc_from c (xs ++ crc_from c xs / 0x100 ∷ crc_from c xs % 0x100 ∷ []) ≡ 0
unfolding crc_from
crc-own c xs = crc-append c xs (crc_from c xs / 0x100 ∷ crc_from c xs % 0x100 ∷ []) ∙ rw (upper-out, lower-out)

pub crc_of-own : (xs : List ℕ) → crc_of (xs ++ crc_of xs / 0x100 ∷ crc_of xs % 0x100 ∷ []) ≡ 0
unfolding crc_of
crc_of-own xs = crc-own 0xffff xs

-- zeros leave a register of 0 as it is
crc-zeros : (n : ℕ) → crc_from 0 (replicate n 0) ≡ 0
unfolding crc_from octet shifted bit
crc-zeros zero = refl
crc-zeros (suc n) = crc-zeros n

pub crc_of-zeros : (xs : List ℕ) (n : ℕ) → crc_of xs ≡ 0 → crc_of (xs ++ replicate n 0) ≡ 0
unfolding crc_of
crc_of-zeros xs n e = crc-append 0xffff xs (replicate n 0) ∙ ap (λ (c : ℕ). crc_from c (replicate n 0)) e ∙ crc-zeros n
