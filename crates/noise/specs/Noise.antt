-- "The other 1,020 are exclusive-ored with the pseudo-random sequence, begun anew in each frame: bits s0 to s7 are 1, and bit n+8 is the
-- exclusive or of bits n+7, n+5, n+3 and n (101.0-B: x^8+x^7+x^5+x^3+1)." Assumes nothing.
use Rattle.std.specs.Prelude.{List, [], ◌∷◌, ℕ, zero, suc, ◌+◌, ◌*◌, ◌%◌}
use Rattle.std.specs.Int.Bits.{bit_xor}

-- bit n of the sequence; the exclusive or of bits is their sum modulo 2
unfoldable pub s : ℕ → ℕ
s zero = 1
s (suc zero) = 1
s (suc (suc zero)) = 1
s (suc (suc (suc zero))) = 1
s (suc (suc (suc (suc zero)))) = 1
s (suc (suc (suc (suc (suc zero))))) = 1
s (suc (suc (suc (suc (suc (suc zero)))))) = 1
s (suc (suc (suc (suc (suc (suc (suc zero))))))) = 1
s (suc (suc (suc (suc (suc (suc (suc (suc n)))))))) =
    (s (suc (suc (suc (suc (suc (suc (suc n))))))) + s (suc (suc (suc (suc (suc n))))) + s (suc (suc (suc n))) + s n) % 2

-- the octet of the eight bits from bit n on, the first the highest
unfoldable pub octet_from : ℕ → ℕ
octet_from n = s n * 128 + s (n + 1) * 64 + s (n + 2) * 32 + s (n + 3) * 16 + s (n + 4) * 8 + s (n + 5) * 4 + s (n + 6) * 2 + s (n + 7)

-- octet i of the sequence
unfoldable pub noise_at : ℕ → ℕ
noise_at i = octet_from (8 * i)

-- octets of the sequence in a row: k of them, from octet i on
unfoldable pub noise_from : ℕ → ℕ → List ℕ
noise_from zero i = []
noise_from (suc k) i = noise_at i ∷ noise_from k (suc i)

-- "It repeats after 255 bits, so also after 255 octets": octets 0 to 254, after which it begins again
unfoldable pub period : List ℕ
period = noise_from 255 0

-- octets exclusive-ored with others, one by one, as far as both go
unfoldable pub xored : List ℕ → List ℕ → List ℕ
xored [] ys = []
xored (x ∷ xs) [] = []
xored (x ∷ xs) (y ∷ ys) = bit_xor x y ∷ xored xs ys

-- octets exclusive-ored with the sequence from its octet i on
unfoldable pub mixed_from : ℕ → List ℕ → List ℕ
mixed_from i [] = []
mixed_from i (x ∷ xs) = bit_xor x (noise_at i) ∷ mixed_from (suc i) xs

-- "begun anew in each frame": the octets behind a frame's marker, mixed; mixing once more gives them back
unfoldable pub mixed : List ℕ → List ℕ
mixed xs = mixed_from 0 xs
