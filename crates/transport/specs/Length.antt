-- The ten octets in front of a file, its bit length L, and the blocks that it needs ("Packets", second paragraph). Assumes nothing.
use Rattle.std.specs.Prelude.{Bool, not, List, ℕ, ◌+◌, ◌-◌, ◌*◌, ◌/◌, eqb}
use Rattle.octets.specs.Number.{number_at, rounded_up}
use Rattle.transport.specs.declared.Transport.{Transport}

-- "the 64-bit bit length L (octets 2 to 9, after the 16-bit file counter)"
unfoldable pub transport_of : List ℕ → Transport
transport_of d = record { counter = number_at d 0 2; bits = number_at d 2 8 }

-- a length that a file can have, "in bits (1 ... 2^64 - 1)" (000, 6.2.2): "Any L from 1 is good" (02, 2/14)
unfoldable pub good_length : ℕ → Bool
good_length L = not (eqb L 0)

-- the file's octets: "L/8 is rounded up wherever 01 has it" (02, 2/14), for behind its bits stands "a filler block (0 ... 7 bit) required to
-- fill up the last octet" (000, 6.2.2)
unfoldable pub octets_of_bits : ℕ → ℕ
unfolding rounded_up
octets_of_bits L = rounded_up L

-- the octets of the transport file: the ten and the file's
unfoldable pub transport_size : ℕ → ℕ
transport_size L = 10 + octets_of_bits L

-- "The need is N = the quotient of 10 + L/8 by 8190, rounded up."
unfoldable pub need : ℕ → ℕ
need L = (transport_size L + 8189) / 8190

-- the rest, which is what the Nth packet carries
unfoldable pub rest : ℕ → ℕ
rest L = transport_size L - 8190 * (need L - 1)
