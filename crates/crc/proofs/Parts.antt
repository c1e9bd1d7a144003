-- Each octet has its own part in the register: what it makes of register 0 with as many zeros behind it as octets follow. That is what the tables
-- have. Assumes nothing.
use mathlib.Core.Path.{◌≡◌, sym, ap, ap₂, ◌∙◌}
use mathlib.Core.List.{List, [], ◌∷◌}
use Prim.Native.Nat.{ℕ, zero, suc, ◌+◌, ◌*◌, ◌/◌, ◌%◌, ◌<◌}
use native.Mathlib.Omega.{arith}
use lib.Bits.{bit_xor, xor_lt, xor_block, xor_shifted, xor_zero_l, xor_zero_r, xor_assoc}
use lib.ListN.{length, get_or, replicate}
use Rattle.octets.specs.Number.{Octets}
use Rattle.octets.specs.Table.{table_of}
use Rattle.octets.proofs.Table.{table_at}
use Rattle.crc.specs.Crc.{shifted, octet, crc_from}
use Rattle.crc.proofs.Laws.{octet-below, none_out}
use Rattle.crc.proofs.Linear.{shifted-linear, crc-linear}

-- what octet x with so many zeros behind it makes of register 0
abbrev entry : ℕ → ℕ → ℕ
entry zeros x = crc_from 0 (x ∷ replicate zeros 0)

-- the table of that
abbrev pub made : ℕ → List ℕ
made zeros = table_of 256 (entry zeros)

-- an octet meets the register's upper octet, and the lower one moves up
meets : (c x : ℕ) → c < 0x10000 → x < 0x100 → octet c x ≡ bit_xor (octet 0 (bit_xor (c / 0x100) x)) (c % 0x100 * 0x100)
unfolding octet
meets c x h k =
    let upper = bit_xor (c / 0x100) x in
    let below : upper < 0x100 = xor_lt 8 (c / 0x100) x (omega arith) k in
    let halves : c ≡ c / 0x100 * 0x100 + c % 0x100 = omega arith in
    let top : x * 0x100 ≡ x * 0x100 + 0 = omega arith in
    let met : bit_xor c (x * 0x100) ≡ bit_xor (upper * 0x100) (c % 0x100) =
    ap₂ bit_xor halves top
    ∙ xor_block 8 (c / 0x100) x (c % 0x100) 0 (omega arith) (omega arith)
    ∙ ap (λ (y : ℕ). upper * 0x100 + y) (xor_zero_r (c % 0x100))
    ∙ sym (xor_shifted upper 8 (c % 0x100) (omega arith)) in
    ap (shifted 8) met
    ∙ shifted-linear 8 (upper * 0x100) (c % 0x100) (omega arith) (omega arith)
    ∙ ap₂ bit_xor (ap (shifted 8) (sym (xor_zero_l (upper * 0x100)))) (none_out 8 (c % 0x100) (omega arith))

-- The first of some octets has the entry of its table for its part, and what is left of the register goes on with the others.
apart : (c x : ℕ) (xs : List ℕ) → c < 0x10000 → x < 0x100 → Octets xs → crc_from c (x ∷ xs) ≡ bit_xor (entry (length xs) (bit_xor (c / 0x100) x)) (crc_from (c % 0x100 * 0x100) xs)
unfolding crc_from
apart c x xs h k os =
    ap (λ (r : ℕ). crc_from r xs) (meets c x h k)
    ∙ crc-linear (octet 0 (bit_xor (c / 0x100) x)) (c % 0x100 * 0x100) xs (octet-below 0 (bit_xor (c / 0x100) x)) (omega arith) os

one-octet : (x : ℕ) (xs : List ℕ) → x < 0x100 → Octets xs → Octets (x ∷ xs)
one-octet x xs h os zero = h
one-octet x xs h os (suc i) = os i

-- four octets: the two octets of the register go with the first two, and nothing of it is left for the others
four : (c x y z w : ℕ) → c < 0x10000 → x < 0x100 → y < 0x100 → z < 0x100 → w < 0x100 → crc_from c (x ∷ y ∷ z ∷ w ∷ []) ≡ bit_xor (bit_xor (bit_xor (entry 3 (bit_xor (c / 0x100) x)) (entry 2 (bit_xor (c % 0x100) y))) (entry 1 z)) (entry 0 w)
four c x y z w hc hx hy hz hw =
    let last : Octets (w ∷ []) = one-octet w [] hw (λ i. omega arith) in
    let two : Octets (z ∷ w ∷ []) = one-octet z (w ∷ []) hz last in
    let lower : c % 0x100 * 0x100 / 0x100 ≡ c % 0x100 = omega arith in
    let none : c % 0x100 * 0x100 % 0x100 * 0x100 ≡ 0 = omega arith in
    apart c x (y ∷ z ∷ w ∷ []) hc hx (one-octet y (z ∷ w ∷ []) hy two)
    ∙ ap (bit_xor (entry 3 (bit_xor (c / 0x100) x)))
    (apart (c % 0x100 * 0x100) y (z ∷ w ∷ []) (omega arith) hy two
    ∙ ap₂ (λ (l r : ℕ). bit_xor (entry 2 (bit_xor l y)) (crc_from r (z ∷ w ∷ []))) lower none
    ∙ ap (bit_xor (entry 2 (bit_xor (c % 0x100) y))) (apart 0 z (w ∷ []) (omega arith) hz last))
    ∙ sym
    (xor_assoc (bit_xor (entry 3 (bit_xor (c / 0x100) x)) (entry 2 (bit_xor (c % 0x100) y))) (entry 1 z) (entry 0 w)
    ∙ xor_assoc (entry 3 (bit_xor (c / 0x100) x)) (entry 2 (bit_xor (c % 0x100) y)) (bit_xor (entry 1 z) (entry 0 w)))

-- an entry, found in its table
found : (zeros x : ℕ) (t : List ℕ) → t ≡ made zeros → x < 0x100 → get_or t x 0 ≡ entry zeros x
found zeros x t e h = ap (λ (l : List ℕ). get_or l x 0) e ∙ table_at (entry zeros) 256 x h

-- four octets by four tables
module _ (three two one none : List ℕ) (e₃ : three ≡ made 3) (e₂ : two ≡ made 2) (e₁ : one ≡ made 1) (e₀ : none ≡ made 0) where
  pub by-four : (c x y z w : ℕ) → c < 0x10000 → x < 0x100 → y < 0x100 → z < 0x100 → w < 0x100 → bit_xor (bit_xor (bit_xor (get_or three (bit_xor (c / 0x100) x) 0) (get_or two (bit_xor (c % 0x100) y) 0)) (get_or one z 0)) (get_or none w 0) ≡ crc_from c (x ∷ y ∷ z ∷ w ∷ [])
  by-four c x y z w hc hx hy hz hw =
      ap₂ bit_xor
      (ap₂ bit_xor
      (ap₂ bit_xor
      (found 3 (bit_xor (c / 0x100) x) three e₃ (xor_lt 8 (c / 0x100) x (omega arith) hx))
      (found 2 (bit_xor (c % 0x100) y) two e₂ (xor_lt 8 (c % 0x100) y (omega arith) hy)))
      (found 1 z one e₁ hz))
      (found 0 w none e₀ hw)
      ∙ sym (four c x y z w hc hx hy hz hw)
