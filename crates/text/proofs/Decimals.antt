-- The fewest digits of a number in base ten are its decimal digits without leading zeros. Assumes nothing.
use mathlib.Core.Path.{◌≡◌, refl, sym, ap, ◌∙◌}
use mathlib.Core.List.{List, [], ◌∷◌, ◌++◌}
use Prim.Native.Nat.{ℕ, zero, suc, ◌+◌, ◌-◌, ◌/◌, ◌%◌, ◌^◌, ◌≤◌, ◌<◌}
use native.Mathlib.Nat.{zero-add, suc-add, pow-succ', pow-le-pow_right}
use native.Mathlib.Numerals.{add-one}
use native.Mathlib.Omega.{arith}
use borrow.Author.Tests.{lt-ltb, ne_eqb}
use lib.ListN.{length, get_or, length-append, get_or-append}
use Rattle.io.specs.Digits.{last_digits, hex_digit_ascii, IsDigitCount}
use Rattle.text.specs.Pieces.{unled, decimal}
use Rattle.text.proofs.Places.{at_most}

pub digits-length : (b k v : ℕ) → length (last_digits b k v) ≡ k
digits-length b zero v = refl
digits-length b (suc k) v = length-append (last_digits b k (v / b)) _ ∙ ap (λ (n : ℕ). n + 1) (digits-length b k (v / b)) ∙ add-one k

-- one digit more than a number takes is a zero in front
led : (k v : ℕ) → v < 10 ^ k → last_digits 10 (suc k) v ≡ 0x30 ∷ last_digits 10 k v
led zero v h = let z : v ≡ 0 = omega arith in rw z
led (suc k) v h =
    let l : v / 10 < 10 ^ k = omega (arith, pow-succ' 10 k) in
    ap (λ (ds : List ℕ). ds ++ hex_digit_ascii (v % 10) ∷ []) (led k (v / 10) l)

-- the first digit of as few as can be is no zero
first : (k v : ℕ) → 10 ^ k ≤ v → v < 10 ^ suc k → get_or (last_digits 10 (suc k) v) 0 0 ≡ 0x30 → ⊥
first zero v l h e =
    let same : v % 10 ≡ v = omega arith in
    let small : v < 10 = omega arith in
    let z : 48 + v ≡ 48 = sym (rw (same, lt-ltb v 10 small)) ∙ e in
    omega arith
first (suc k) v l h e =
    let low : 10 ^ k ≤ v / 10 = omega (arith, pow-succ' 10 k) in
    let high : v / 10 < 10 ^ suc k = omega (arith, pow-succ' 10 (suc k)) in
    let some : 0 < length (last_digits 10 (suc k) (v / 10)) = omega (arith, digits-length 10 (suc k) (v / 10)) in
    first k (v / 10) low high (sym (get_or-append (last_digits 10 (suc k) (v / 10)) (hex_digit_ascii (v % 10) ∷ []) 0 0 some) ∙ e)

-- a list that keeps its first digit
kept : (ds : List ℕ) → (get_or ds 0 0 ≡ 0x30 → ⊥) → unled ds ≡ ds
unfolding unled
kept [] n = refl
kept (d ∷ []) n = refl
kept (d ∷ e ∷ ds) n = rw (ne_eqb d 0x30 n)

alone : (ds : List ℕ) → length ds ≡ 1 → unled ds ≡ ds
unfolding unled
alone [] h = refl
alone (d ∷ []) h = refl
alone (d ∷ e ∷ ds) h = absurd (omega (arith, h))

without : (ds : List ℕ) → 1 ≤ length ds → unled (0x30 ∷ ds) ≡ unled ds
unfolding unled
without [] h = absurd (omega (arith, h))
without (d ∷ ds) h = refl

-- as few digits as can be, with zeros in front
unled-more : (m k v : ℕ) → 1 ≤ k → v < 10 ^ k → unled (last_digits 10 (m + k) v) ≡ unled (last_digits 10 k v)
unled-more zero k v l h = rw zero-add
unled-more (suc m) k v l h =
    let more : k ≤ m + k = omega arith in
    let grows : 10 ^ k ≤ 10 ^ (m + k) = pow-le-pow_right (omega arith) more in
    let enough : v < 10 ^ (m + k) = omega arith in
    let some : 1 ≤ length (last_digits 10 (m + k) v) = omega (arith, digits-length 10 (m + k) v) in
    ap (λ (n : ℕ). unled (last_digits 10 n v)) (suc-add m k) ∙ ap unled (led (m + k) v enough) ∙ without (last_digits 10 (m + k) v) some
    ∙ unled-more m k v l h

fewest-kept : (k v : ℕ) → IsDigitCount 10 1 v k → unled (last_digits 10 k v) ≡ last_digits 10 k v
fewest-kept zero v f = absurd (omega (arith, f.0))
fewest-kept (suc zero) v f = alone (last_digits 10 1 v) (digits-length 10 1 v)
fewest-kept (suc (suc k)) v f =
    let less : suc (suc k) - 1 ≡ suc k = omega arith in
    kept _ (first (suc k) v (rw less at (f.2 (omega arith))) f.1)

pub decimal-digits : (k v : ℕ) → v < 10 ^ 20 → IsDigitCount 10 1 v k → last_digits 10 k v ≡ decimal v
unfolding decimal
decimal-digits k v h f =
    let few : k ≤ 20 = at_most 10 1 20 v k (omega arith) (omega arith) h f in
    let all : 20 - k + k ≡ 20 = omega arith in
    sym (ap (λ (n : ℕ). unled (last_digits 10 n v)) (sym all) ∙ unled-more (20 - k) k v f.0 f.1 ∙ fewest-kept k v f)
