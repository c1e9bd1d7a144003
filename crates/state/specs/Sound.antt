-- "A state is sound when:", clause by clause. Assumes nothing.
use Rattle.std.specs.Prelude.{◌≡◌, true, false, List, ℕ, ◌-◌, ◌*◌, ◌≤◌, ◌<◌, length, get_or}
use Rattle.octets.specs.Number.{part}
use Rattle.packet.specs.Header.{packet_of, size_of, bad}
use Rattle.transport.specs.Length.{good_length}
use Rattle.state.specs.declared.Desk.{Desk}
use Rattle.state.specs.declared.Station.{Station}
use Rattle.state.specs.Slots.{slot_at, desk_at, no_file, held, incomplete, need_of, named}
use Rattle.state.specs.Blocks.{blocks_of, table}

-- the arrays have their sizes: the language's types see to that
pub record Sized (s : Station) : Type 0 where
  pub watched : length s.watched ≡ 8
  pub desks : length s.desks ≡ 8
  pub owner : length s.owner ≡ 4096
  pub slots : length s.slots ≡ 32

-- "set-up is as above": "1 to 8 distinct channels 0 to 62", "1 to 4,096 blocks"
pub record SetUp (s : Station) : Type 0 where
  pub some : 1 ≤ s.channels
  pub few : s.channels ≤ 8
  pub low : (i : ℕ) → i < s.channels → get_or (named s) i 0 ≤ 62
  pub distinct : (i j : ℕ) → i < s.channels → j < s.channels → get_or (named s) i 0 ≡ get_or (named s) j 0 → i ≡ j
  pub store : 1 ≤ s.blocks
  pub least : s.blocks ≤ 4096

-- a held slot: "has accepted p packets, 1 to N, being complete exactly if p = N; its channel is watched, its application is at most 2015,
-- its length is nonzero .. and gives N; its last count is below 16,384" (01; 02, 2/14), and its N places are there
pub record HeldSlot (s : Station) (k : ℕ) : Type 0 where
  pub accepted : (slot_at s k).accepted ≤ need_of (slot_at s k)
  pub watched : (i : ℕ) × (i < s.channels) × (get_or (named s) i 0 ≡ (slot_at s k).channel.0)
  pub application : (slot_at s k).application.0 ≤ 2015
  pub bits : good_length (slot_at s k).bits ≡ true
  pub count : (slot_at s k).count.0 < 16384
  pub places : length (blocks_of s k) ≡ need_of (slot_at s k)

-- a desk as the state has it: "each desk holds 0 to 8,197 octets, .. a last frame counter below 2^24, and, where no frame was seen,
-- counter 0 and nothing held"
pub record DeskHolds (d : Desk) : Type 0 where
  pub few : d.held ≤ 8197
  pub counter : d.counter.0 < 0x1000000
  pub unseen : d.seen ≡ false → (d.counter.0 ≡ 0) × (d.held ≡ 0)

-- what the state alone says, always judged
pub record Sound (s : Station) : Type 0 where
  pub set_up : SetUp s
  -- "each block is free or stands at one place of one held slot"
  pub blocks : (b : ℕ) → b < s.blocks → (get_or (table s) b 0 ≡ 0 → ⊥) → (get_or (table s) b 0 ≤ 32) × (held (slot_at s (get_or (table s) b 0 - 1)) ≡ true)
  pub files : (k : ℕ) → k < 32 → held (slot_at s k) ≡ true → HeldSlot s k
  -- "no two incomplete slots share channel and application"
  pub alone :
      (j k : ℕ) → j < 32 → k < 32 → incomplete (slot_at s j) ≡ true → incomplete (slot_at s k) ≡ true
      → (slot_at s j).channel.0 ≡ (slot_at s k).channel.0 → (slot_at s j).application.0 ≡ (slot_at s k).application.0 → j ≡ k
  -- "a free slot is all zero"
  pub free : (k : ℕ) → k < 32 → held (slot_at s k) ≡ false → slot_at s k ≡ no_file
  pub desks : (i : ℕ) → i < s.channels → DeskHolds (desk_at s i)

-- the 8,198 octets of desk i
abbrev pub desk_octets : ℕ → List ℕ → List ℕ
desk_octets i desks = part (8198 * i) 8198 desks

-- the octets of a desk that holds h of them: "zeros after them", and "six or more held octets read as a good packet header whose packet
-- is longer than what is held"
pub record OctetsHeld (h : ℕ) (d : List ℕ) : Type 0 where
  pub zeros : (i : ℕ) → h ≤ i → get_or d i 0 ≡ 0
  pub header : 6 ≤ h → (bad (packet_of d) ≡ false) × (h < size_of (packet_of d))

-- what the desks' octets say, judged when desks are lent
pub record DesksSound (s : Station) (desks : List ℕ) : Type 0 where
  pub octets : (i : ℕ) → i < s.channels → OctetsHeld (desk_at s i).held (desk_octets i desks)
