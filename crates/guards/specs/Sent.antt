-- Frames as they are sent, octet for octet, for runs that can be written down (Guards.antt). Assumes nothing.
use Rattle.std.specs.Prelude.{◌≡◌, List, [], ◌∷◌, ◌++◌, ℕ, zero, suc, ◌+◌, ◌-◌, ◌*◌, ◌/◌, ◌%◌, ltb, length, replicate, if◌then◌else◌}
use Rattle.octets.specs.Number.{part}
use Rattle.crc.specs.Crc.{crc_of}
use Rattle.noise.specs.Noise.{mixed}
use Rattle.frame.specs.Header.{marker}
use Rattle.events.specs.Event.{Event}
use Rattle.history.specs.Run.{World, Call, after, Start}
use Rattle.history.specs.Run.Call.{frame}
use Rattle.history.specs.Things.{said}

-- "The program uses spacecraft 1, channels 0 to 3, seven blocks."
pub record Program (x : Start) : Type 0 where
  pub spacecraft : x.spacecraft ≡ 1
  pub channels : x.channels ≡ 0 ∷ 1 ∷ 2 ∷ 3 ∷ []
  pub store : length x.store ≡ 8190 * 7

-- "2 bits version (1), 8 spacecraft, 6 channel, 24 frame counter, 8 signalling, 5 spare, 11 pointer, 884 octets of packet zone, 128 check
-- octets": spacecraft 1, channel c, counter n below 256, pointer p, and check octets that are passed over
abbrev pub plain : ℕ → ℕ → ℕ → List ℕ → List ℕ
plain c n p zone = 0x40 ∷ (0x40 + c) ∷ 0 ∷ 0 ∷ n ∷ 0 ∷ p / 0x100 ∷ p % 0x100 ∷ (zone ++ replicate 128 0)

-- the marker, and the other 1,020 octets mixed with the noise
abbrev pub sent_on : ℕ → ℕ → ℕ → List ℕ → List ℕ
sent_on c n p zone = marker ++ mixed (plain c n p zone)

-- on channel 2: "Frame header 40 42"
abbrev pub sent : ℕ → ℕ → List ℕ → List ℕ
sent n p zone = sent_on 2 n p zone

-- a packet of 8,198 octets and others behind it fill the zones of ten frames: in the first it starts; later the pointer is r, what the
-- packet lacks, "if r is below 884, and 2047 otherwise"
abbrev pub pointer_at : ℕ → ℕ
pointer_at zero = 0
pointer_at (suc j) = if ltb (8198 - 884 * suc j) 884 then 8198 - 884 * suc j else 2047

-- m of the frames of channel c that carry the octets xs, from the one with zone j on; the first has counter n
abbrev pub frames_from : ℕ → ℕ → List ℕ → List ℕ → ℕ → ℕ → List Call
frames_from c n xs list j zero = []
frames_from c n xs list j (suc m) =
    frame (sent_on c (n + j) (pointer_at j) (part (884 * j) 884 xs)) list ∷ frames_from c n xs list (suc j) m

abbrev pub ten_frames_on : ℕ → ℕ → List ℕ → List ℕ → List Call
ten_frames_on c n xs list = frames_from c n xs list 0 10

abbrev pub ten_frames : ℕ → List ℕ → List ℕ → List Call
ten_frames n xs list = ten_frames_on 2 n xs list

-- all events that the calls of a run give
unfoldable pub all_said : World → List Call → List Event
all_said w [] = []
all_said w (c ∷ cs) = said w c ++ all_said (after w c) cs

-- a packet with six octets of header and the data d, whose check is 0
abbrev pub checked : List ℕ → List ℕ → List ℕ
checked h d = h ++ d ++ (0 ∷ 0 ∷ [])

-- data of 8,190 octets that begin with two or more octets and their check, zeros behind them: their check is 0
abbrev pub long : List ℕ → List ℕ
long xs = xs ++ (crc_of xs / 0x100 ∷ crc_of xs % 0x100 ∷ []) ++ replicate (8188 - length xs) 0

-- the first packet of a file of L bits, L below 2^24: application a, count 0, "8,190 octets", which begin with the file counter and L
abbrev pub first : ℕ → ℕ → List ℕ
first a L =
    checked (0 ∷ a ∷ 0x40 ∷ 0 ∷ 0x1f ∷ 0xff ∷ [])
    (long (0 ∷ 0 ∷ 0 ∷ 0 ∷ 0 ∷ 0 ∷ 0 ∷ L / 0x10000 ∷ L / 0x100 % 0x100 ∷ L % 0x100 ∷ []))

-- a middle packet with count n
abbrev pub middle : ℕ → ℕ → List ℕ
middle a n = checked (0 ∷ a ∷ 0 ∷ n ∷ 0x1f ∷ 0xff ∷ []) (long [])

-- a packet of one octet with flags f and count n: "CRC .. of FF: FF00"
abbrev pub tiny : ℕ → ℕ → ℕ → List ℕ
tiny f a n = 0 ∷ a ∷ f * 0x40 ∷ n ∷ 0 ∷ 2 ∷ 0xff ∷ 0xff ∷ 0 ∷ []

-- a last packet with count n, of one octet
abbrev pub last : ℕ → ℕ → List ℕ
last a n = tiny 2 a n

-- a fill packet of n octets
abbrev pub fill : ℕ → List ℕ
fill n = 7 ∷ 0xff ∷ 0xc0 ∷ 0 ∷ (n - 7) / 0x100 ∷ (n - 7) % 0x100 ∷ replicate (n - 6) 0

-- a whole packet: application a, L = 8, and its check
abbrev pub whole_of : ℕ → List ℕ
whole_of a = 0 ∷ a ∷ 0xc0 ∷ 0 ∷ 0 ∷ 12 ∷ 0 ∷ 0 ∷ 0 ∷ 0 ∷ 0 ∷ 0 ∷ 0 ∷ 0 ∷ 0 ∷ 8 ∷ 0 ∷ 0x5d ∷ 0xa6 ∷ []

abbrev pub whole : List ℕ
whole = whole_of 5

-- a last packet of one octet whose check is wrong, and a packet of application 2016
abbrev pub damaged : List ℕ
damaged = 0 ∷ 5 ∷ 0x80 ∷ 0 ∷ 0 ∷ 2 ∷ 0xff ∷ 0 ∷ 0 ∷ []

abbrev pub reserved : List ℕ
reserved = 7 ∷ 0xe0 ∷ 0xc0 ∷ 0 ∷ 0 ∷ 3 ∷ replicate 4 0

-- a file of 16 octets that is all header: type 0, length 16, file type 2, header length 16, no data
abbrev pub primary : List ℕ
primary = 0 ∷ 0 ∷ 16 ∷ 2 ∷ 0 ∷ 0 ∷ 0 ∷ 16 ∷ replicate 8 0

-- the whole packet of that file: application 5, L = 128, and its check
abbrev pub header_alone : List ℕ
header_alone = 0 ∷ 5 ∷ 0xc0 ∷ 0 ∷ 0 ∷ 27 ∷ (0 ∷ 0 ∷ 0 ∷ 0 ∷ 0 ∷ 0 ∷ 0 ∷ 0 ∷ 0 ∷ 128 ∷ primary ++ (0xdf ∷ 0x89 ∷ []))

-- the whole packet of a file of 12 bits: application 5, ten octets with file counter 258, and two, the second filled up with four bits, ones;
-- and its check
abbrev pub twelve_bits : List ℕ
twelve_bits = 0 ∷ 5 ∷ 0xc0 ∷ 0 ∷ 0 ∷ 13 ∷ 1 ∷ 2 ∷ 0 ∷ 0 ∷ 0 ∷ 0 ∷ 0 ∷ 0 ∷ 0 ∷ 12 ∷ 0xab ∷ 0xcf ∷ 0xbb ∷ 0x79 ∷ []
