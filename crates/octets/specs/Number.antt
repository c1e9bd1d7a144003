-- "Numbers are unsigned and most significant octet first unless said otherwise." Assumes nothing.
use Rattle.std.specs.Prelude.{List, [], ◌∷◌, ◌++◌, ℕ, zero, suc, ◌+◌, ◌-◌, ◌*◌, ◌/◌, ◌%◌, ◌^◌, ◌<◌, eqb, ltb, length, take, drop, get_or, ℤ, pos, if◌then◌else◌}
use Rattle.std.proofs.Math.IntN.{sub_ℕ}

-- each of xs is an octet, a number below 256; past the end stands 0
abbrev pub Octets : List ℕ → Type 0
Octets xs = (i : ℕ) → get_or xs i 0 < 256

-- the octets from place `at` on, `n` of them
abbrev pub part : {A : Type 0} → ℕ → ℕ → List A → List A
part at n xs = take n (drop at xs)

-- the number that some octets stand for
unfoldable pub number : List ℕ → ℕ
number [] = 0
number (x ∷ xs) = x * 256 ^ length xs + number xs

-- the number in the `w` octets from place `at` on
unfoldable pub number_at : List ℕ → ℕ → ℕ → ℕ
number_at xs at w = number (part at w xs)

-- a number in `w` octets
unfoldable pub in_octets : ℕ → ℕ → List ℕ
in_octets zero n = []
in_octets (suc w) n = in_octets w (n / 256) ++ (n % 256 ∷ [])

-- the number in the `w` bits from bit `from` on, the bits counted from the most significant one of the first octet
unfoldable pub bits_at : List ℕ → ℕ → ℕ → ℕ
bits_at xs from w = number xs / 2 ^ (8 * length xs - (from + w)) % 2 ^ w

-- a signed number of four octets: the number itself, or less 2^32 where the top bit is 1
unfoldable pub signed : ℕ → ℤ
signed n = if ltb n (2 ^ 31) then pos n else sub_ℕ n (2 ^ 32)

-- the octets that so many bits fill: "rounded up to octets"
unfoldable pub rounded_up : ℕ → ℕ
rounded_up bits = bits / 8 + (if eqb (bits % 8) 0 then 0 else 1)
