-- What stands in a frame ("Frames", 1 to 3). Assumes nothing.
use Rattle.std.specs.Prelude.{Bool, true, false, ◌&&◌, List, [], ◌∷◌, ℕ, ◌<◌, ltb, eqb, take, drop, if◌then◌else◌}
use Rattle.octets.specs.Number.{part, bits_at}
use Rattle.noise.specs.Noise.{mixed}
use Rattle.frame.specs.declared.Frame.{Frame}
use Rattle.frame.specs.declared.Pointer.{Pointer}
use Rattle.frame.specs.declared.Pointer.TheVariants.{Offset, NoStart, Refused}

-- "Octets 0 to 3 are 1A CF FC 1D"
abbrev pub marker : List ℕ
marker = 0x1a ∷ 0xcf ∷ 0xfc ∷ 0x1d ∷ []

-- whether the octets begin so
unfoldable pub starts_with : List ℕ → List ℕ → Bool
starts_with [] f = true
starts_with (m ∷ ms) [] = false
starts_with (m ∷ ms) (x ∷ xs) = eqb x m && starts_with ms xs

-- "The other 1,020 are exclusive-ored with the pseudo-random sequence, begun anew in each frame"
unfoldable pub derandomised : List ℕ → List ℕ
derandomised f = mixed (drop 4 f)

-- "Then 2 bits version (1), 8 spacecraft, 6 channel, 24 frame counter, 8 signalling (ignored), 5 spare (ignored), 11 pointer"
unfoldable pub frame_of : List ℕ → Frame
frame_of plain =
    let h : List ℕ = take 8 plain in
    record {
      version = bits_at h 0 2;
      spacecraft = bits_at h 2 8;
      channel = record { 0 = bits_at h 10 6 };
      counter = record { 0 = bits_at h 16 24 };
      pointer = bits_at h 53 11;
    }

-- a header whose fields keep to their bits: what is read is a channel number and a counter in their ranges
pub record Bounded (h : Frame) : Type 0 where
  pub version : h.version < 4
  pub spacecraft : h.spacecraft < 256
  pub channel : h.channel.0 < 64
  pub counter : h.counter.0 < 0x1000000
  pub pointer : h.pointer < 2048

-- "884 octets of packet zone, 128 check octets"
unfoldable pub zone_of : List ℕ → List ℕ
zone_of plain = part 8 884 plain

-- the offset in the zone of the first packet that starts there; none starts at 2047; 884 to 2046 mean nothing and are refused
unfoldable pub pointer_meaning : ℕ → Pointer
pointer_meaning p = if ltb p 884 then Offset p else if eqb p 2047 then NoStart else Refused
