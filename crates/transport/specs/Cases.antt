-- Lengths on both sides of each line (02, 2/14), and what they give. Assumes nothing.
use Rattle.std.specs.Prelude.{◌≡◌, true, false, ℕ}
use Rattle.transport.specs.Length.{good_length, octets_of_bits, need, rest}

-- a good length, the file's octets, the need, and the octets that the last packet carries
infix 70 L=◌octets◌N=◌last-packet◌
abbrev pub L=◌octets◌N=◌last-packet◌ : ℕ → ℕ → ℕ → ℕ → Type 0
L= l octets m N= n last-packet r = (good_length l ≡ true) × (octets_of_bits l ≡ m) × (need l ≡ n) × (rest l ≡ r)

abbrev pub Cases : Type 0
Cases =
    (good_length 0 ≡ false)
    -- "The case L = 12 changes to N = 1 with 12 octets of data": ten and two
    × (L= 12 octets 2 N= 1 last-packet 12)
    × (L= 1 octets 1 N= 1 last-packet 11)
    × (L= 7 octets 1 N= 1 last-packet 11)
    × (L= 8 octets 1 N= 1 last-packet 11)
    × (L= 9 octets 2 N= 1 last-packet 12)
    × (L= 65440 octets 8180 N= 1 last-packet 8190)
    × (L= 65441 octets 8181 N= 2 last-packet 1)
    × (L= 65448 octets 8181 N= 2 last-packet 1)
    -- 2^64 - 8, and the greatest of all
    × (L= 18446744073709551608 octets 2305843009213693951 N= 281543712968706 last-packet 11)
    × (L= 18446744073709551615 octets 2305843009213693952 N= 281543712968706 last-packet 12)
