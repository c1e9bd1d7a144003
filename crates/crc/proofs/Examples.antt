-- What the paper's three checks leave open, since they come out alike with any polynomial of degree 16: which one it is. Assumes nothing.
use mathlib.Core.Path.{◌≡◌, refl}
use mathlib.Core.List.{[], ◌∷◌}
use Prim.Native.Nat.{◌+◌, ◌^◌}
use Rattle.crc.specs.Crc.{bit, shifted, octet, crc_from, crc_of}

-- "x^16+x^12+x^5+1": one bit behind x^15 stands x^12+x^5+1. With `shifted-linear`, and `none_out` for all below x^15, that is what a bit does
-- to every register.
pub polynomial : bit (2 ^ 15) ≡ 2 ^ 12 + 2 ^ 5 + 2 ^ 0
unfolding bit
polynomial = refl

-- the published check of the nine digits 1 to 9, as letters
pub nine-digits : crc_of (0x31 ∷ 0x32 ∷ 0x33 ∷ 0x34 ∷ 0x35 ∷ 0x36 ∷ 0x37 ∷ 0x38 ∷ 0x39 ∷ []) ≡ 0x29b1
unfolding crc_of crc_from octet shifted bit
nine-digits = refl
