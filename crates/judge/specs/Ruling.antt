-- What is decided of a packet before anything is done, by its octets, its channel, the slots and the number of blocks; and what is done then.
-- Means: Judge.antt has what a packet does, as the paper tells it, and that this is the same is proved (proofs/Rulings.antt). Assumes nothing.
use Rattle.std.specs.Prelude.{List, [], ◌∷◌, ℕ, ◌-◌, ltb, get_or, set, if◌then◌else◌, Option, Some, None}
use Rattle.events.specs.Event.{of, at}
use Rattle.frame.specs.declared.Channel.{Channel}
use Rattle.packet.specs.declared.Packet.{Packet}
use Rattle.packet.specs.declared.Kind.{Kind}
use Rattle.packet.specs.declared.Kind.TheVariants.{File, Other, Fill}
use Rattle.packet.specs.Kinds.{kind_of}
use Rattle.packet.specs.Header.{packet_of}
use Rattle.transport.specs.declared.Transport.{Transport}
use Rattle.transport.specs.Length.{need}
use Rattle.transport.specs.Shape.{begun_of}
use Rattle.state.specs.declared.Slot.{Slot}
use Rattle.state.specs.declared.Station.{Station}
use Rattle.state.specs.Slots.{no_file, slot_at}
use Rattle.state.specs.Blocks.{needs}
use Rattle.room.specs.Find.{free_from, file_from}
use Rattle.room.specs.Move.{with_file, let_go}
use Rattle.judge.specs.declared.Place.{Place}
use Rattle.judge.specs.declared.Place.TheVariants.{Denied, Granted}
use Rattle.judge.specs.declared.Act.{Act}
use Rattle.judge.specs.declared.Act.TheVariants.{Opens, Over, GoesOn, Ends}
use Rattle.judge.specs.declared.Ruling.{Ruling}
use Rattle.judge.specs.declared.Ruling.TheVariants.{Skips, Says, Does}
use Rattle.judge.specs.Judge.{Judged, gives, after, data_of, is_intact, written, next_slot, next_kind, opens, goes_on, starts_file}

-- a file that begins: event 7, 8 or 9, or the lowest free slot
unfoldable pub place_at : ℕ → List Slot → Transport → Option ℕ → Place
place_at blocks slots t None = Denied 8
place_at blocks slots t (Some k) = if ltb (blocks - needs slots) (need t.bits) then Denied 9 else Granted k t

unfoldable pub place_of : ℕ → List Slot → Option Transport → Place
place_of blocks slots None = Denied 7
place_of blocks slots (Some t) = place_at blocks slots t (free_from 0 slots)

unfoldable pub new_ruling : Place → Ruling
new_ruling (Denied n) = Says n
new_ruling (Granted k t) = Does (Opens k t)

-- a packet that starts a file, by the file of its pair: where there is one, the new one is placed as if that were gone
unfoldable pub start_ruling : ℕ → List Slot → Option Transport → Option ℕ → Ruling
start_ruling blocks slots b None = new_ruling (place_of blocks slots b)
start_ruling blocks slots b (Some k) = Does (Over k (place_of blocks (set slots k no_file) b))

-- a later packet
unfoldable pub next_ruling : List Slot → Packet → List ℕ → Option ℕ → Ruling
next_ruling slots h d None = Says 5
next_ruling slots h d (Some k) = if goes_on (get_or slots k no_file) h d then Does (GoesOn k) else Does (Ends k)

unfoldable pub file_ruling : Channel → ℕ → List Slot → Packet → List ℕ → Ruling
file_ruling c blocks slots h d =
    if starts_file h
    then start_ruling blocks slots (begun_of h.flags d) (file_from 0 c h.application slots)
    else next_ruling slots h d (file_from 0 c h.application slots)

unfoldable pub ruling_as : Kind → Channel → ℕ → List Slot → Packet → List ℕ → Ruling
ruling_as Fill c blocks slots h p = Skips
ruling_as Other c blocks slots h p = Says 13
ruling_as File c blocks slots h p = if is_intact p then file_ruling c blocks slots h (data_of p) else Says 4

-- a whole packet of channel c, where there are so many blocks
unfoldable pub ruling_of : Channel → ℕ → List Slot → List ℕ → Ruling
ruling_of c blocks slots p = ruling_as (kind_of (packet_of p).application) c blocks slots (packet_of p) p

-- what is done where a file that begins is placed so
unfoldable pub placed_as : Channel → Station → List ℕ → Packet → List ℕ → Place → Judged
placed_as c s store h d (Denied n) = gives s store (of n h.application.0 ∷ [])
placed_as c s store h d (Granted k t) = opens c s store h d k t

unfoldable pub acted : Channel → Station → List ℕ → Packet → List ℕ → Act → Judged
acted c s store h d (Opens k t) = opens c s store h d k t
acted c s store h d (Over k p) = after (at 6 h.application.0 k ∷ []) (placed_as c (let_go s k) store h d p)
acted c s store h d (GoesOn k) =
    gives (with_file s s.owner k (next_slot (slot_at s k) h)) (written s k (slot_at s k).accepted d store)
    (at (next_kind h) h.application.0 k ∷ [])
acted c s store h d (Ends k) = gives (let_go s k) store (at 6 h.application.0 k ∷ [])

unfoldable pub ruled : Channel → Station → List ℕ → Packet → List ℕ → Ruling → Judged
ruled c s store h d Skips = gives s store []
ruled c s store h d (Says n) = gives s store (of n h.application.0 ∷ [])
ruled c s store h d (Does a) = acted c s store h d a
