-- The loop over a portion: a window of four octets, as one number of 32 bits, that moves on by one octet. Assumes nothing.
use Rattle.std.specs.Prelude.{Bool, true, false, not, ◌&&◌, ◌||◌, List, [], ◌∷◌, ℕ, suc, ◌+◌, ◌*◌, ◌%◌, ◌^◌, leb, eqb}
use Rattle.std.specs.Int.Bits.{bit_xor}
use Rattle.std.specs.Int.Count.{ones}
use Rattle.stream.specs.declared.Sought.{Sought}
use Rattle.stream.specs.declared.Sought.TheVariants.{At, Nowhere}

-- whether four octets, as one number, are a marker by the rule
abbrev pub near : ℕ → ℕ → Bool
near k v = leb (ones (bit_xor v 0x1acffc1d)) k

-- the next octet joins the last three
abbrev pub moved : ℕ → ℕ → ℕ
moved v x = v * 256 % 2 ^ 32 + x

-- the first window that is a marker, from place i on, and where it ends; or the last one
unfoldable pub sought_in : ℕ → ℕ → ℕ → List ℕ → Sought
sought_in k i v [] = Nowhere v
sought_in k i v (x ∷ xs) = elim (near k (moved v x)) [ true ↦ At (suc i) (moved v x) | false ↦ sought_in k (suc i) (moved v x) xs ]

-- whether an octet stands in the marker, and whether none of some octets does
abbrev pub in_marker : ℕ → Bool
in_marker x = eqb x 0x1a || (eqb x 0xcf || (eqb x 0xfc || eqb x 0x1d))

unfoldable pub quiet : List ℕ → Bool
quiet [] = true
quiet (x ∷ xs) = not (in_marker x) && quiet xs
