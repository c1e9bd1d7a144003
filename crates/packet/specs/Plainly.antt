-- The header of a packet in its octets, one by one: no word of how bits are cut. Assumes nothing.
use Rattle.std.specs.Prelude.{◌≡◌, List, ◌⊎◌, ℕ, ◌+◌, ◌*◌, ◌/◌, ◌%◌, ◌≤◌, ◌<◌, get_or}
use Rattle.packet.specs.declared.Packet.{Packet}

-- "Six octets: 3 bits version, type, flag, 11 application, 2 sequence flags, 14 count, 16 length."
pub record Plainly (p : List ℕ) (h : Packet) : Type 0 where
  pub version : h.version ≡ get_or p 0 0 / 32
  pub application : h.application.0 ≡ get_or p 0 0 % 8 * 0x100 + get_or p 1 0
  pub flags : h.flags ≡ get_or p 2 0 / 64
  pub count : h.count.0 ≡ get_or p 2 0 % 64 * 0x100 + get_or p 3 0
  pub long : h.length ≡ get_or p 4 0 * 0x100 + get_or p 5 0

-- "The header is bad if version is not 0, length exceeds 8191, or application is at most 2015 and length is below 2."
abbrev pub BadPlainly : List ℕ → Type 0
BadPlainly p =
    (32 ≤ get_or p 0 0)
    ⊎ ((8191 < get_or p 4 0 * 0x100 + get_or p 5 0)
    ⊎ ((get_or p 0 0 % 8 * 0x100 + get_or p 1 0 ≤ 2015) × (get_or p 4 0 * 0x100 + get_or p 5 0 < 2)))
