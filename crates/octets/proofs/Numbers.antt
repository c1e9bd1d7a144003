-- The laws of numbers in octets: two stretches after each other, the bound, a number that is read octet by octet, fields of bits, and bits
-- rounded up to octets. Assumes nothing.
use mathlib.Core.Path.{◌≡◌, refl, sym, ap, ap₂, ◌∙◌}
use mathlib.Core.List.{List, [], ◌∷◌, ◌++◌}
use Prim.Native.Nat.{ℕ, zero, suc, ◌+◌, ◌-◌, ◌*◌, ◌/◌, ◌%◌, ◌^◌, ◌<◌, ◌≤◌}
use native.Mathlib.Nat.{zero-add, add_assoc, zero-mul, add-mul, mul_assoc, pow-suc, pow-succ', lt_of_lt_of_le, min-le_left, mod-lt, mul-add-div_right, mul-add-mod_self_right}
use native.Mathlib.Numerals.{add-one}
use native.Mathlib.Omega.{arith}
use borrow.Author.Tests.{eqb-true, eqb-false}
use lib.Dec.{eqb}
use lib.ListN.{length, take, drop, get_or, length-append, length-take, length-drop}
use lib.Arith.{digits_lt}
use lib.Pow.{pow-add, pow_mono, pow_pos, shr-shr, high}
use lib.Seq.{drop-cons, drop-drop, take-suc, get_or-drop, length-take-le}
use Rattle.octets.specs.Number.{Octets, part, number, number_at, bits_at, rounded_up}
use Rattle.octets.proofs.Lists.{whole_part, part-part, three-parts, if-cases}

pub octets-drop : (xs : List ℕ) (n : ℕ) → Octets xs → Octets (drop n xs)
octets-drop xs n h i = rw get_or-drop (h (n + i))

pub octets-take : (xs : List ℕ) (n : ℕ) → Octets xs → Octets (take n xs)
octets-take [] zero h i = h i
octets-take [] (suc n) h i = h i
octets-take (x ∷ xs) zero h i = omega arith
octets-take (x ∷ xs) (suc n) h zero = h 0
octets-take (x ∷ xs) (suc n) h (suc i) = octets-take xs n (λ (k : ℕ). h (suc k)) i

pub octets-part : (xs : List ℕ) (at n : ℕ) → Octets xs → Octets (part at n xs)
octets-part xs at n h = octets-take (drop at xs) n (octets-drop xs at h)

gather : (x p q m n : ℕ) → x * (p * q) + (m * q + n) ≡ (x * p + m) * q + n
gather x p q m n = rw (add-mul, mul_assoc, add_assoc)

pub number_append : (xs ys : List ℕ) → number (xs ++ ys) ≡ number xs * 256 ^ length ys + number ys
unfolding number
number_append [] ys = rw (zero-mul, zero-add)
number_append (x ∷ xs) ys =
    ap (λ (k : ℕ). x * 256 ^ k + number (xs ++ ys)) (length-append xs ys)
    ∙ ap₂ (λ (k m : ℕ). x * k + m) (pow-add 256 (length xs) (length ys)) (number_append xs ys)
    ∙ gather x (256 ^ length xs) (256 ^ length ys) (number xs) (number ys)

pub number-snoc : (xs : List ℕ) (x : ℕ) → number (xs ++ x ∷ []) ≡ number xs * 256 + x
unfolding number
number-snoc xs x = number_append xs (x ∷ []) ∙ omega arith

pub number-below : (xs : List ℕ) → Octets xs → number xs < 256 ^ length xs
unfolding number
number-below [] h = omega arith
number-below (x ∷ xs) h = rw pow-succ' (digits_lt (h 0) (number-below xs (λ (i : ℕ). h (suc i))))

-- an octet is eight bits
pub octets-bits : (n : ℕ) → 256 ^ n ≡ 2 ^ (8 * n)
octets-bits zero = refl
octets-bits (suc n) =
    let e : 8 * suc n ≡ 8 * n + 8 = omega arith in
    rw (pow-suc, octets-bits n, e, pow-add)

pub number-bits : (xs : List ℕ) → Octets xs → number xs < 2 ^ (8 * length xs)
number-bits xs h = rw octets-bits at (number-below xs h)

-- a loop that reads a number from place at on: an octet more takes eight bits more
pub grow : (v x i : ℕ) → v < 2 ^ (8 * i) → x < 256 → v * 256 + x < 2 ^ (8 * (i + 1))
grow v x i h k =
    let e : 8 * (i + 1) ≡ 8 * i + 8 = omega arith in
    let p : 2 ^ (8 * i + 8) ≡ 2 ^ (8 * i) * 256 = pow-add 2 (8 * i) 8 in
    rw (e, p) (omega arith)

-- eight bits of the 64 are free as long as an octet is to be read
pub free : (v i : ℕ) → i < 8 → v < 2 ^ (8 * i) → v < 2 ^ 56
free v i h k = lt_of_lt_of_le k (pow_mono {i = 8 * i} {j = 56} (omega arith))

-- where the loop begins, and a turn
pub number-none : (s : List ℕ) (at : ℕ) → 0 ≡ number_at s at 0
unfolding number_at number
number-none s at = refl

pub number_more : (s : List ℕ) (at v i : ℕ) → at + i < length s → v ≡ number_at s at i → v * 256 + get_or s (at + i) 0 ≡ number_at s at (i + 1)
unfolding number_at
number_more s at v i h e =
    let l : i < length (drop at s) = omega (arith, length-drop at s) in
    sym (ap number (ap (λ (k : ℕ). part at k s) (add-one i) ∙ take-suc (drop at s) i 0 l) ∙ number-snoc (part at i s) (get_or (drop at s) i 0)
    ∙ rw (get_or-drop, e))

pub number_at-below : (xs : List ℕ) (at n : ℕ) → Octets xs → number_at xs at n < 2 ^ (8 * n)
unfolding number_at
number_at-below xs at n h =
    let few : length (part at n xs) ≤ n = simp length-take (min-le_left n (length (drop at xs))) in
    lt_of_lt_of_le (number-bits (part at n xs) (octets-part xs at n h)) (pow_mono {i = 8 * length (part at n xs)} {j = 8 * n} (omega arith))

-- a number of one octet is that octet
pub number_at-one : (xs : List ℕ) (at : ℕ) → at < length xs → number_at xs at 1 ≡ get_or xs at 0
unfolding number_at number
number_at-one xs at h = ap (λ (ys : List ℕ). number (take 1 ys)) (drop-cons xs at 0 h) ∙ omega arith

-- two and three octets in a row
module _ (xs : List ℕ) (at : ℕ) where
  pub two-octets : at + 1 < length xs → get_or xs at 0 * 256 + get_or xs (at + 1) 0 ≡ number_at xs at 2
  two-octets h = number_more xs at (get_or xs at 0) 1 h (sym (number_at-one xs at (omega arith)))

  pub three-octets : at + 2 < length xs → (get_or xs at 0 * 256 + get_or xs (at + 1) 0) * 256 + get_or xs (at + 2) 0 ≡ number_at xs at 3
  three-octets h = number_more xs at (get_or xs at 0 * 256 + get_or xs (at + 1) 0) 2 h (two-octets (omega arith))

-- behind some octets
pub number_at-drop : (p : ℕ) (s : List ℕ) (at w : ℕ) → number_at (drop p s) at w ≡ number_at s (p + at) w
unfolding number_at
number_at-drop p s at w = ap (λ (ys : List ℕ). number (take w ys)) (drop-drop at p s)

-- a number in a part is a number in the whole
pub number_at-part : (xs : List ℕ) (at n i w : ℕ) → i + w ≤ n → number_at (part at n xs) i w ≡ number_at xs (at + i) w
unfolding number_at
number_at-part xs at n i w h = ap number (part-part xs at n i w h)

apart : (a f w k : ℕ) → a * 2 ^ (f + w + k) ≡ a * 2 ^ f * 2 ^ w * 2 ^ k
apart a f w k =
    rw (pow-add 2 (f + w) k, pow-add 2 f w, ← mul_assoc a (2 ^ f * 2 ^ w) (2 ^ k), ← mul_assoc a (2 ^ f) (2 ^ w))

-- bits of p, a number of f + w + k bits, stay the same with a before it and r, of e bits, behind it
cut : (a p r e k f w : ℕ) → r < 2 ^ e → ((a * 2 ^ (f + w + k) + p) * 2 ^ e + r) / 2 ^ (e + k) % 2 ^ w ≡ p / 2 ^ k % 2 ^ w
cut a p r e k f w h =
    let q = a * 2 ^ (f + w + k) + p in
    ap (λ (x : ℕ). x % 2 ^ w)
    (sym (shr-shr (q * 2 ^ e + r) e k) ∙ ap (λ (x : ℕ). x / 2 ^ k) (high q e h) ∙ ap (λ (x : ℕ). (x + p) / 2 ^ k) (apart a f w k)
    ∙ mul-add-div_right (pow_pos k) (a * 2 ^ f * 2 ^ w) p)
    ∙ mul-add-mod_self_right (a * 2 ^ f) (2 ^ w) (p / 2 ^ k)

number-three : (xs ys zs : List ℕ) (k : ℕ) → 8 * length ys ≡ k
    → number (xs ++ ys ++ zs) ≡ (number xs * 2 ^ k + number ys) * 2 ^ (8 * length zs) + number zs
number-three xs ys zs k e =
    number_append (xs ++ ys) zs ∙ rw (number_append xs ys, octets-bits (length ys), octets-bits (length zs), e)

-- a field that lies within the second of three stretches is the field of that stretch
within : (xs ys zs : List ℕ) (from w : ℕ) → Octets zs → from + w ≤ 8 * length ys
    → bits_at (xs ++ ys ++ zs) (8 * length xs + from) w ≡ bits_at ys from w
unfolding bits_at
within xs ys zs from w h fits =
    let k = 8 * length ys - (from + w) in
    let long : length (xs ++ ys ++ zs) ≡ length xs + length ys + length zs = simp length-append in
    let places : 8 * length (xs ++ ys ++ zs) - (8 * length xs + from + w) ≡ 8 * length zs + k = omega arith in
    let octets : 8 * length ys ≡ from + w + k = omega arith in
    ap₂ (λ (x j : ℕ). x / 2 ^ j % 2 ^ w) (number-three xs ys zs (from + w + k) octets) places
    ∙ cut (number xs) (number ys) (number zs) (8 * length zs) k from w (number-bits zs h)

module _ (xs : List ℕ) (at n from w : ℕ) (h : Octets xs) (whole : at + n ≤ length xs) (fits : from + w ≤ 8 * n) where
  -- a field that lies within a part of the octets is the field of that part
  pub bits_at-part : bits_at xs (8 * at + from) w ≡ bits_at (part at n xs) from w
  bits_at-part =
      let front : length (take at xs) ≡ at = length-take-le at xs (omega arith) in
      let count : length (part at n xs) ≡ n = whole_part xs at n whole in
      rw (three-parts xs at n, front)
      at (within (take at xs) (part at n xs) (drop (at + n) xs) from w (octets-drop xs (at + n) h) (omega arith))

  pub bits_at-number : bits_at xs (8 * at + from) w ≡ number_at xs at n / 2 ^ (8 * n - (from + w)) % 2 ^ w
  unfolding bits_at number_at
  bits_at-number =
      bits_at-part
      ∙ ap (λ (k : ℕ). number (part at n xs) / 2 ^ (8 * k - (from + w)) % 2 ^ w) (whole_part xs at n whole)

-- THE law of header fields: a field of the first m octets that lies within n octets from place `at` on is that field of the number in them
pub field : (m : ℕ) (xs : List ℕ) → Octets xs → m ≤ length xs → (at n from w : ℕ) → at + n ≤ m → from + w ≤ 8 * n
    → bits_at (take m xs) (8 * at + from) w ≡ number_at xs at n / 2 ^ (8 * n - (from + w)) % 2 ^ w
field m xs h whole at n from w inside fits =
    sym (rw zero-add at (bits_at-part xs 0 m (8 * at + from) w h (omega arith) (omega arith)))
    ∙ bits_at-number xs at n from w h (omega arith) fits

pub bits_at-below : (xs : List ℕ) (from w : ℕ) → bits_at xs from w < 2 ^ w
unfolding bits_at
bits_at-below xs from w = mod-lt (number xs / 2 ^ (8 * length xs - (from + w))) (pow_pos w)

-- "rounded up": as few octets as hold the bits
pub rounded-up : (bits : ℕ) → (bits ≤ 8 * rounded_up bits) × (8 * rounded_up bits < bits + 8)
unfolding rounded_up
rounded-up bits =
    if-cases (λ (one : ℕ). (bits ≤ 8 * (bits / 8 + one)) × (8 * (bits / 8 + one) < bits + 8)) (eqb (bits % 8) 0)
    (λ whole. let none : bits % 8 ≡ 0 = eqb-true (bits % 8) 0 whole in (omega arith, omega arith))
    (λ rest. let some = eqb-false (bits % 8) 0 rest in (omega (arith, some), omega arith))

pub rounded-only : (bits r : ℕ) → bits ≤ 8 * r → 8 * r < bits + 8 → r ≡ rounded_up bits
rounded-only bits r all few = omega (arith, rounded-up bits)
