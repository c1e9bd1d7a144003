-- "x^16+x^12+x^5+1, start all ones, most significant bit first, no final inversion." Assumes nothing.
use Rattle.std.specs.Prelude.{List, [], ◌∷◌, ℕ, zero, suc, ◌*◌, ◌%◌, ltb, if◌then◌else◌}
use Rattle.std.specs.Int.Bits.{bit_xor}

-- one bit: the register of 16 bits moves up by one, and where a one falls out at the top x^12+x^5+1 is exclusive-ored in
unfoldable pub bit : ℕ → ℕ
bit c = if ltb c 0x8000 then c * 2 % 0x10000 else bit_xor (c * 2 % 0x10000) 0x1021

-- n bits
unfoldable pub shifted : ℕ → ℕ → ℕ
shifted zero c = c
shifted (suc n) c = shifted n (bit c)

-- one octet, most significant bit first: it enters at the register's top
unfoldable pub octet : ℕ → ℕ → ℕ
octet c x = shifted 8 (bit_xor c (x * 0x100))

-- the register after some octets, from the register c on
unfoldable pub crc_from : ℕ → List ℕ → ℕ
crc_from c [] = c
crc_from c (x ∷ xs) = crc_from (octet c x) xs

-- "start all ones"
unfoldable pub crc_of : List ℕ → ℕ
crc_of xs = crc_from 0xffff xs
