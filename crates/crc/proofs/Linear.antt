-- The register is linear: what two registers, exclusive-ored, become is the exclusive or of what each becomes. Assumes nothing.
use mathlib.Core.Path.{◌≡◌, refl, sym, ap, ap₂, ◌∙◌}
use mathlib.Core.List.{List, [], ◌∷◌}
use Prim.Native.Nat.{ℕ, zero, suc, ◌+◌, ◌*◌, ◌/◌, ◌%◌, ◌^◌, ◌<◌}
use native.Mathlib.Omega.{arith}
use borrow.Author.Tests.{ltb-true, ltb-false}
use lib.Bits.{bit_xor, xor_lt, xor_block, xor_shr, xor_mod, xor_zero_r, xor_assoc}
use lib.Dec.{ltb}
use lib.ListN.{length, replicate}
use Rattle.octets.specs.Number.{Octets}
use Rattle.octets.proofs.Lists.{if-cases}
use Rattle.octets.proofs.Xor.{xor-exchange}
use Rattle.crc.specs.Crc.{bit, shifted, octet, crc_from}
use Rattle.crc.proofs.Laws.{bit_below, octet-below}

-- one bit without a test: what falls out at the top, 1 or 0, is a factor of the polynomial
bit-form : (c : ℕ) → c < 0x10000 → bit c ≡ bit_xor (c * 2 % 0x10000) (c / 0x8000 * 0x1021)
unfolding bit
bit-form c h =
    if-cases (λ (x : ℕ). x ≡ bit_xor (c * 2 % 0x10000) (c / 0x8000 * 0x1021)) (ltb c 0x8000)
    (λ e.
    let none : c / 0x8000 ≡ 0 = omega (arith, ltb-true c 0x8000 e) in
    sym (ap (λ (x : ℕ). bit_xor (c * 2 % 0x10000) (x * 0x1021)) none ∙ xor_zero_r (c * 2 % 0x10000)))
    (λ e.
    let one : c / 0x8000 ≡ 1 = omega (arith, ltb-false c 0x8000 e) in
    sym (ap (λ (x : ℕ). bit_xor (c * 2 % 0x10000) (x * 0x1021)) one))

-- the register moves up
doubled : (a b : ℕ) → bit_xor a b * 2 ≡ bit_xor (a * 2) (b * 2)
doubled a b =
    let left : a * 2 ≡ a * 2 ^ 1 + 0 = omega arith in
    let right : b * 2 ≡ b * 2 ^ 1 + 0 = omega arith in
    let both : bit_xor (a * 2) (b * 2) ≡ bit_xor a b * 2 ^ 1 + 0 =
    ap₂ bit_xor left right ∙ xor_block 1 a b 0 0 (omega arith) (omega arith) in
    sym (both ∙ omega arith)

-- the polynomial is exclusive-ored in for the one, for the other, or for both, which is for neither
chosen : (x y : ℕ) → x < 2 → y < 2 → bit_xor x y * 0x1021 ≡ bit_xor (x * 0x1021) (y * 0x1021)
chosen zero y h k = refl
chosen (suc zero) zero h k = refl
chosen (suc zero) (suc zero) h k = refl
chosen (suc zero) (suc (suc y)) h k = omega arith
chosen (suc (suc x)) y h k = omega arith

bit-linear : (a b : ℕ) → a < 0x10000 → b < 0x10000 → bit (bit_xor a b) ≡ bit_xor (bit a) (bit b)
bit-linear a b h k =
    let moved : bit_xor a b * 2 % 0x10000 ≡ bit_xor (a * 2 % 0x10000) (b * 2 % 0x10000) =
    ap (λ (x : ℕ). x % 0x10000) (doubled a b) ∙ xor_mod (a * 2) (b * 2) 16 in
    let out : bit_xor a b / 0x8000 * 0x1021 ≡ bit_xor (a / 0x8000 * 0x1021) (b / 0x8000 * 0x1021) =
    ap (λ (x : ℕ). x * 0x1021) (xor_shr a b 15) ∙ chosen (a / 0x8000) (b / 0x8000) (omega arith) (omega arith) in
    bit-form (bit_xor a b) (xor_lt 16 a b h k)
    ∙ ap₂ bit_xor moved out
    ∙ xor-exchange (a * 2 % 0x10000) (b * 2 % 0x10000) (a / 0x8000 * 0x1021) (b / 0x8000 * 0x1021)
    ∙ sym (ap₂ bit_xor (bit-form a h) (bit-form b k))

pub shifted-linear : (n a b : ℕ) → a < 0x10000 → b < 0x10000 → shifted n (bit_xor a b) ≡ bit_xor (shifted n a) (shifted n b)
unfolding shifted
shifted-linear zero a b h k = refl
shifted-linear (suc n) a b h k = ap (shifted n) (bit-linear a b h k) ∙ shifted-linear n (bit a) (bit b) (bit_below a) (bit_below b)

octet-linear : (a b x : ℕ) → a < 0x10000 → b < 0x10000 → x < 0x100 → octet (bit_xor a b) x ≡ bit_xor (octet a 0) (octet b x)
unfolding octet
octet-linear a b x h k l =
    ap (shifted 8) (xor_assoc a b (x * 0x100))
    ∙ shifted-linear 8 a (bit_xor b (x * 0x100)) h (xor_lt 16 b (x * 0x100) k (omega arith))
    ∙ ap (λ (y : ℕ). bit_xor (shifted 8 y) (shifted 8 (bit_xor b (x * 0x100)))) (sym (xor_zero_r a))

-- one register of two goes over zeros, the other one over the octets
pub crc-linear : (a b : ℕ) (xs : List ℕ) → a < 0x10000 → b < 0x10000 → Octets xs → crc_from (bit_xor a b) xs ≡ bit_xor (crc_from a (replicate (length xs) 0)) (crc_from b xs)
unfolding crc_from
crc-linear a b [] h k os = refl
crc-linear a b (x ∷ xs) h k os =
    ap (λ (c : ℕ). crc_from c xs) (octet-linear a b x h k (os 0))
    ∙ crc-linear (octet a 0) (octet b x) xs (octet-below a 0) (octet-below b x) (λ i. os (suc i))
