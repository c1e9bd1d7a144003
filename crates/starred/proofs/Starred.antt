-- Every starred case is right, by computation. Assumes nothing.
use Rattle.octets.specs.Number.{number, bits_at}
use Rattle.crc.specs.Crc.{bit, shifted, octet, crc_from, crc_of}
use Rattle.frame.specs.Kinds.{counter_follows, desk_from, desk_of}
use Rattle.frame.specs.Header.{frame_of, pointer_meaning}
use Rattle.frame.specs.Refusals.{examined_header}
use Rattle.packet.specs.Kinds.{count_follows}
use Rattle.packet.specs.Header.{packet_of, bad, look_of}
use Rattle.transport.specs.Length.{good_length, octets_of_bits, transport_size, need, rest}
use Rattle.starred.specs.Cases.{cases, Every}

pub starred : Every cases
unfolding cases number bits_at bit shifted octet crc_from crc_of good_length octets_of_bits transport_size need rest
    frame_of pointer_meaning desk_from desk_of examined_header count_follows counter_follows packet_of bad look_of
starred = search tt
