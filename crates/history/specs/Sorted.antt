-- Demand 2, "derandomised, sorted by channel and application": which frames a packet, and a file, came on. Assumes nothing.
use Rattle.std.specs.Prelude.{◌≡◌, ℕ, ◌%◌, get_or}
use mathlib.Core.List.{List, ◌∷◌, ◌++◌, Memᴰ}
use Rattle.std.specs.Int.Bits.{bit_xor}
use Rattle.octets.specs.Number.{Octets}
use Rattle.frame.specs.declared.Channel.{Channel}
use Rattle.frame.specs.Header.{derandomised, frame_of}
use Rattle.state.specs.declared.Slot.{Slot}
use Rattle.history.specs.Run.{World, Call, run, Start, fresh}
use Rattle.history.specs.Run.Call.{frame}
use Rattle.history.specs.Things.{things}
use Rattle.history.specs.Things.Thing.{packet}
use Rattle.history.specs.Files.{CameInRun, packets_of}
use Rattle.history.specs.Store.{Moment}

-- the channel that a frame names: the "6 channel" bits of its header, derandomised
abbrev pub header_channel : List ℕ → Channel
header_channel f = (frame_of (derandomised f)).channel

-- the frame f names channel c: "6 channel"
pub record Names (f : List ℕ) (c : Channel) : Type 0 where
  pub header : c ≡ header_channel f
  -- with no word of how a frame is read: the low six bits of octet 5, the second behind the marker, mixed with 48 ("First octets FF 48 0E C0
  -- 9A"). A frame is lent as octets.
  pub in-octets : Octets f → c.0 ≡ bit_xor (get_or f 5 0) 0x48 % 64

-- "sorted by channel": a packet is judged under the channel of the frame that brought it
abbrev pub SortedByChannel : Moment → Type 0
SortedByChannel m = Names m.sent m.channel

-- the same over a run: one of the calls is a frame of channel c, and it brought packet p
pub record Brought (w : World) (cs : List Call) (c : Channel) (p : List ℕ) : Type 0 where
  pub earlier : List Call
  pub sent : List ℕ
  pub list : List ℕ
  pub behind : List Call
  pub calls : cs ≡ earlier ++ (frame sent list ∷ behind)
  pub names : Names sent c
  pub among : Memᴰ (packet c p) (things (run w earlier) (frame sent list))

-- "the file of this channel and application": every packet of a file that came about came on a frame of the file's channel
abbrev pub FilesSorted : Start → List Call → Type 0
FilesSorted x cs =
    (k : ℕ) (y : Slot) (m : CameInRun x cs k y) (p : List ℕ) → Memᴰ p (packets_of m) → Brought (fresh x) cs y.channel p
