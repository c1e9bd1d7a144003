-- What one whole packet does to slots, blocks and store, and the events that it gives ("Packets"). Assumes nothing.
use Rattle.std.specs.Prelude.{Bool, ◌||◌, List, [], ◌∷◌, ◌++◌, ℕ, ◌+◌, ◌-◌, ◌*◌, ltb, eqb, length, get_or, if◌then◌else◌, Option, Some, None}
use Rattle.octets.specs.Number.{part, number_at}
use Rattle.octets.specs.Buffer.{put}
use Rattle.crc.specs.Crc.{crc_of}
use Rattle.frame.specs.declared.Channel.{Channel}
use Rattle.packet.specs.declared.Packet.{Packet}
use Rattle.packet.specs.declared.Kind.{Kind}
use Rattle.packet.specs.declared.Kind.TheVariants.{File, Other, Fill}
use Rattle.packet.specs.Kinds.{kind_of}
use Rattle.packet.specs.Header.{packet_of}
use Rattle.transport.specs.declared.Transport.{Transport}
use Rattle.transport.specs.Length.{need}
use Rattle.transport.specs.Shape.{fits, begun_of}
use Rattle.state.specs.declared.Slot.{Slot}
use Rattle.state.specs.declared.Station.{Station}
use Rattle.state.specs.Slots.{slot_at}
use Rattle.state.specs.Blocks.{blocks_of, room}
use Rattle.room.specs.Find.{free_slot, file_of}
use Rattle.room.specs.Move.{with_file, opened, let_go}
use Rattle.events.specs.Event.{Event, of, at}

-- what comes of it: the state, the store's octets, and the events
pub record Judged : Type 0 where
  pub station : Station
  pub store : List ℕ
  pub events : List Event

abbrev pub gives : Station → List ℕ → List Event → Judged
gives s store es = record { station = s; store = store; events = es }

-- "the last two octets are the CRC of the data before them, header not included"
abbrev pub data_of : List ℕ → List ℕ
data_of p = part 6 (length p - 8) p

abbrev pub check_of : List ℕ → ℕ
check_of p = number_at p (length p - 2) 2

-- whether it is so
abbrev pub is_intact : List ℕ → Bool
is_intact p = eqb (crc_of (data_of p)) (check_of p)

-- "A packet's data is written from its block's start and the rest of the block stays": the block at place i of slot k
unfoldable pub written : Station → ℕ → ℕ → List ℕ → List ℕ → List ℕ
written s k i d store = put store (8190 * get_or (blocks_of s k) i 0) d

-- the slot of a file of which the first packet is accepted
abbrev pub first_slot : Channel → Packet → Transport → Slot
first_slot c h t = record { channel = c; application = h.application; bits = t.bits; count = h.count; accepted = 1 }

-- the slot with one more packet accepted
abbrev pub next_slot : Slot → Packet → Slot
next_slot x h = record { channel = x.channel; application = x.application; bits = x.bits; count = h.count; accepted = x.accepted + 1 }

-- "otherwise the lowest free slot and the N lowest free blocks, in rising order, event 10, and for a whole file event 12 after it"
unfoldable pub opens : Channel → Station → List ℕ → Packet → List ℕ → ℕ → Transport → Judged
opens c s store h d k t =
    let s' : Station = opened s k (first_slot c h t) in
    let a : ℕ = h.application.0 in
    gives s' (written s' k 0 d store) (at 10 a k ∷ (if eqb h.flags 3 then at 12 a k ∷ [] else []))

-- "Then event 8 if all 32 slots are held; then event 9 if N exceeds the free blocks"
unfoldable pub placed : Channel → Station → List ℕ → Packet → List ℕ → Transport → Option ℕ → Judged
placed c s store h d t None = gives s store (of 8 h.application.0 ∷ [])
placed c s store h d t (Some k) =
    if ltb (room s) (need t.bits) then gives s store (of 9 h.application.0 ∷ []) else opens c s store h d k t

-- "Event 7 if the data is under 10 octets, .. or the shape is wrong."
unfoldable pub begins : Channel → Station → List ℕ → Packet → List ℕ → Option Transport → Judged
begins c s store h d None = gives s store (of 7 h.application.0 ∷ [])
begins c s store h d (Some t) = placed c s store h d t (free_slot s)

-- the events so far, then those of what comes of it
abbrev pub after : List Event → Judged → Judged
after es j = gives j.station j.store (es ++ j.events)

-- "Flags 1 (first) or 3 (whole): an incomplete file of the pair is abandoned, event 6, whatever follows."
unfoldable pub starts : Channel → Station → List ℕ → Packet → List ℕ → Option ℕ → Judged
starts c s store h d None = begins c s store h d (begun_of h.flags d)
starts c s store h d (Some k) = after (at 6 h.application.0 k ∷ []) (begins c (let_go s k) store h d (begun_of h.flags d))

-- "With one, the count must follow the last ..": whether a packet goes on with the file in a slot. Only slot and packet are looked at
unfoldable pub goes_on : Slot → Packet → List ℕ → Bool
goes_on x h d = fits h.flags (length d) x.bits x.accepted x.count h.count

-- "event 11, or 12 for the last"
abbrev pub next_kind : Packet → ℕ
next_kind h = if eqb h.flags 2 then 12 else 11

-- "If so it is written into its block, event 11, or 12 for the last. If not, event 6."
unfoldable pub continues : Station → List ℕ → Packet → List ℕ → Option ℕ → Judged
continues s store h d None = gives s store (of 5 h.application.0 ∷ [])
continues s store h d (Some k) =
    let x : Slot = slot_at s k in
    let a : ℕ = h.application.0 in
    if goes_on x h d
    then gives (with_file s s.owner k (next_slot x h)) (written s k x.accepted d store) (at (next_kind h) a k ∷ [])
    else gives (let_go s k) store (at 6 a k ∷ [])

-- "Flags 1 (first) or 3 (whole)"
abbrev pub starts_file : Packet → Bool
starts_file h = eqb h.flags 1 || eqb h.flags 3

-- "Then, for the file of this channel and application"
unfoldable pub filed : Channel → Station → List ℕ → Packet → List ℕ → Judged
filed c s store h d =
    if starts_file h
    then starts c s store h d (file_of s c h.application)
    else continues s store h d (file_of s c h.application)

-- "Application 2047 is fill: skipped, no event. 2016 to 2046: event 13, skipped. Otherwise .. the CRC .. Wrong: event 4, no file touched"
unfoldable pub judged_as : Kind → Channel → Station → List ℕ → Packet → List ℕ → Judged
judged_as Fill c s store h p = gives s store []
judged_as Other c s store h p = gives s store (of 13 h.application.0 ∷ [])
judged_as File c s store h p =
    if is_intact p then filed c s store h (data_of p) else gives s store (of 4 h.application.0 ∷ [])

-- a whole packet of channel c
unfoldable pub judged : Channel → Station → List ℕ → List ℕ → Judged
judged c s store p = judged_as (kind_of (packet_of p).application) c s store (packet_of p) p
