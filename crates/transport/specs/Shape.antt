-- The shapes of a file's packets, by their sequence flags ("Packets", the two rules for a file). Assumes nothing.
use Rattle.std.specs.Prelude.{Bool, false, not, ◌&&◌, List, ℕ, ◌+◌, leb, ltb, eqb, length, if◌then◌else◌, Option, Some, None}
use Rattle.packet.specs.declared.Count.{Count}
use Rattle.packet.specs.Kinds.{count_follows}
use Rattle.transport.specs.declared.Transport.{Transport}
use Rattle.transport.specs.Length.{transport_of, good_length, transport_size, need, rest}

-- n octets of data in a packet of a file of length L, of which p packets were accepted, the last with the count `last`

-- "First: 8,190 octets and N at least 2."
unfoldable pub first_fits : ℕ → ℕ → Bool
first_fits n L = eqb n 8190 && leb 2 (need L)

-- "Whole: 10 + L/8 octets and N = 1."
unfoldable pub whole_fits : ℕ → ℕ → Bool
whole_fits n L = eqb n (transport_size L) && eqb (need L) 1

-- "the count must follow the last modulo 16,384; a middle packet has 8,190 octets and isn't the Nth"
unfoldable pub middle_fits : ℕ → ℕ → ℕ → Count → Count → Bool
middle_fits n L p last c = count_follows last c && eqb n 8190 && not (eqb (p + 1) (need L))

-- "a last one is the Nth with exactly the rest"
unfoldable pub last_fits : ℕ → ℕ → ℕ → Count → Count → Bool
last_fits n L p last c = count_follows last c && eqb (p + 1) (need L) && eqb n (rest L)

-- the shape that goes with the flags: 1 first, 3 whole, 0 middle, 2 last
unfoldable pub fits : ℕ → ℕ → ℕ → ℕ → Count → Count → Bool
fits flags n L p last c =
    if eqb flags 1 then first_fits n L
    else if eqb flags 3 then whole_fits n L
    else if eqb flags 0 then middle_fits n L p last c
    else if eqb flags 2 then last_fits n L p last c
    else false

-- "Event 7 if the data is under 10 octets, the 64-bit bit length L .. is 0 .., or the shape is wrong." (01; 02, 2/14)
unfoldable pub begun_of : ℕ → List ℕ → Option Transport
begun_of flags d =
    if ltb (length d) 10 then None
    else if not (good_length (transport_of d).bits) then None
    else if eqb flags 1 && first_fits (length d) (transport_of d).bits then Some (transport_of d)
    else if eqb flags 3 && whole_fits (length d) (transport_of d).bits then Some (transport_of d)
    else None
