-- The header of a frame in the octets as they came: no word of how it is derandomised, nor of how its bits are cut. Assumes nothing.
use Rattle.std.specs.Prelude.{◌≡◌, List, ℕ, ◌+◌, ◌*◌, ◌/◌, ◌%◌, ◌<◌, length, get_or}
use Rattle.std.specs.Int.Bits.{bit_xor}
use Rattle.noise.specs.Noise.{noise_at}
use Rattle.frame.specs.declared.Frame.{Frame}

-- The sequence begins behind the marker, with octet 4: "First octets FF 48 0E C0 9A", then 0D 70 BC.
pub record Plainly (f : List ℕ) (h : Frame) : Type 0 where
  -- octets 4 and 5, with FF 48: "2 bits version (1), 8 spacecraft, 6 channel"
  pub version : h.version ≡ bit_xor (get_or f 4 0) 0xff / 64
  pub spacecraft : h.spacecraft ≡ bit_xor (get_or f 4 0) 0xff % 64 * 4 + bit_xor (get_or f 5 0) 0x48 / 64
  pub channel : h.channel.0 ≡ bit_xor (get_or f 5 0) 0x48 % 64
  -- octets 6 to 8, with 0E C0 9A: "24 frame counter"
  pub counter :
      h.counter.0 ≡ bit_xor (get_or f 6 0) 0x0e * 0x10000 + bit_xor (get_or f 7 0) 0xc0 * 0x100 + bit_xor (get_or f 8 0) 0x9a
  -- octet 9: "8 signalling (ignored)"; octets 10 and 11, with 70 BC: "5 spare (ignored), 11 pointer"
  pub pointer : h.pointer ≡ bit_xor (get_or f 10 0) 0x70 % 8 * 0x100 + bit_xor (get_or f 11 0) 0xbc

-- "884 octets of packet zone": octet i of it is octet 12 + i of the frame, mixed with octet 8 + i of the sequence
pub record ZonePlainly (f zone : List ℕ) : Type 0 where
  pub size : length zone ≡ 884
  pub octets : (i : ℕ) → i < 884 → get_or zone i 0 ≡ bit_xor (get_or f (12 + i) 0) (noise_at (8 + i))
