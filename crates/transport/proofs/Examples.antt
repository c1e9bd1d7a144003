-- The lengths of Cases, computed. Assumes nothing.
use Rattle.transport.specs.Length.{good_length, octets_of_bits, transport_size, need, rest}
use Rattle.transport.specs.Cases.{Cases}

pub examples : Cases
unfolding good_length octets_of_bits transport_size need rest
examples = search
