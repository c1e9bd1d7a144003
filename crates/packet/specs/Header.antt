-- The six octets of a packet header ("Packets", first paragraph). Assumes nothing.
use Rattle.std.specs.Prelude.{Bool, not, ◌&&◌, ◌||◌, List, ℕ, ◌+◌, ◌<◌, leb, ltb, eqb, length, take, if◌then◌else◌}
use Rattle.octets.specs.Number.{bits_at}
use Rattle.packet.specs.declared.Packet.{Packet}
use Rattle.packet.specs.declared.Look.{Look}
use Rattle.packet.specs.declared.Look.TheVariants.{Short, Bad, Good}

-- "Six octets: 3 bits version, type, flag, 11 application, 2 sequence flags, 14 count, 16 length."
unfoldable pub packet_of : List ℕ → Packet
packet_of xs =
    let h : List ℕ = take 6 xs in
    record {
      version = bits_at h 0 3;
      application = record { 0 = bits_at h 5 11 };
      flags = bits_at h 16 2;
      count = record { 0 = bits_at h 18 14 };
      length = bits_at h 32 16;
    }

-- a header whose fields keep to their bits: what is read is an application number and a count in their ranges
pub record Bounded (h : Packet) : Type 0 where
  pub version : h.version < 8
  pub application : h.application.0 < 2048
  pub flags : h.flags < 4
  pub count : h.count.0 < 16384
  pub long : h.length < 65536

-- "A packet has 7 + length octets."
abbrev pub size_of : Packet → ℕ
size_of p = 7 + p.length

-- "The header is bad if version is not 0, length exceeds 8191, or application is at most 2015 and length is below 2."
unfoldable pub bad : Packet → Bool
bad p = not (eqb p.version 0) || ltb 8191 p.length || leb p.application.0 2015 && ltb p.length 2

-- what stands at the start of some octets: fewer than six, a bad header, or a good one
unfoldable pub look_of : List ℕ → Look
look_of xs = if ltb (length xs) 6 then Short else if bad (packet_of xs) then Bad else Good (packet_of xs)
