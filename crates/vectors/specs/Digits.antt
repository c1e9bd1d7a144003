-- Hexadecimal digits, and the octets that they stand for, "two digits each". Assumes nothing.
use Rattle.std.specs.Prelude.{Option, Some, None, Bool, ◌&&◌, List, [], ◌∷◌, ◌++◌, ℕ, ◌+◌, ◌-◌, ◌*◌, leb, ltb, if◌then◌else◌}

-- "hexadecimal digits (either case)": the value of a digit, and 16 for an octet that is none
unfoldable pub value_of : ℕ → ℕ
value_of x =
    if ltb x 0x30 then 16
    else if leb x 0x39 then x - 0x30
    else if ltb x 0x41 then 16
    else if leb x 0x46 then x - 0x41 + 10
    else if ltb x 0x61 then 16
    else if leb x 0x66 then x - 0x61 + 10
    else 16

abbrev pub is_digit : ℕ → Bool
is_digit x = leb (value_of x) 15

-- octets in front of others, if there are others
unfoldable pub in_front : List ℕ → Option (List ℕ) → Option (List ℕ)
in_front xs None = None
in_front xs (Some ys) = Some (xs ++ ys)

-- the octets of a run of digits; none if one is missing, or another octet stands among them
unfoldable pub octets_of : List ℕ → Option (List ℕ)
octets_of [] = Some []
octets_of (high ∷ []) = None
octets_of (high ∷ low ∷ ds) =
    if is_digit high && is_digit low then in_front ((value_of high * 16 + value_of low) ∷ []) (octets_of ds) else None
