-- "Frames", 4 to 6, over one frame: from where its octets are read, what is cut from them, and events 1, 2 and 3 exactly when their rules say.
-- Neither `reading` nor `split`, which the calls' contracts use, stands here: this is the rule a second time, in other words. Assumes nothing.
use Rattle.std.specs.Prelude.{◌≡◌, Bool, true, ◌⊎◌, ℕ, ◌+◌, ◌%◌, ◌≤◌, ◌<◌, eqb, length, drop, if◌then◌else◌}
use mathlib.Core.List.{List, [], ◌∷◌, ◌++◌, flatten}
use Rattle.frame.specs.declared.Channel.{Channel}
use Rattle.frame.specs.Header.{derandomised, frame_of, zone_of}
use Rattle.packet.specs.declared.Packet.{Packet}
use Rattle.packet.specs.declared.Look.TheVariants.{Bad, Good}
use Rattle.packet.specs.Header.{look_of, size_of}
use Rattle.state.specs.Slots.{desk_at}
use Rattle.events.specs.Event.{Event, bare, Among}
use Rattle.zone.specs.Zone.{Wholes, Unfinished}
use Rattle.zone.specs.Walk.{held_at}
use Rattle.station.specs.Frame.{channel_at}
use Rattle.history.specs.Run as runs
use Rattle.history.specs.Run.{World, Call, answer, run, Start, fresh}
use Rattle.history.specs.Run.Call.{frame}
use Rattle.history.specs.Things.{Thing, did_all, things, said}
use Rattle.history.specs.Things.Thing.{packet, left, gone}
use Rattle.history.specs.Sorted.{header_channel}

-- what a frame says, derandomised
abbrev pub counter_in : List ℕ → ℕ
counter_in f = (frame_of (derandomised f)).counter.0

abbrev pub pointer_in : List ℕ → ℕ
pointer_in f = (frame_of (derandomised f)).pointer

abbrev pub zone_in : List ℕ → List ℕ
zone_in f = zone_of (derandomised f)

-- what a desk has for its channel's next frame: the octets held, whether a frame was seen before, and the last counter
pub record OnDesk : Type 0 where
  pub held : List ℕ
  pub seen : Bool
  pub last : ℕ

abbrev pub on_desk : World → ℕ → OnDesk
on_desk w i =
    record { held = held_at w.station w.desks i; seen = (desk_at w.station i).seen; last = (desk_at w.station i).counter.0 }

-- after a frame with counter n: "This counter is now the last."
abbrev pub leaving : List ℕ → ℕ → OnDesk
leaving held n = record { held = held; seen = true; last = n }

-- "the last plus 1 modulo 2^24"
abbrev pub Follows : OnDesk → List ℕ → Type 0
Follows d f = counter_in f ≡ (d.last + 1) % 0x1000000

-- "If octets are held, they are carried on into the zone.": no frame is missing, they make a good header, and "r is what the packet lacked at
-- the zone's start"
pub record Lacks (d : OnDesk) (f : List ℕ) (r : ℕ) : Type 0 where
  pub some : 0 < length d.held
  pub follows : Follows d f
  pub header : Packet
  pub good : look_of (d.held ++ zone_in f) ≡ Good header
  pub size : length d.held + r ≡ size_of header

-- "the pointer must be r if r is below 884, and 2047 otherwise"
abbrev pub Pointed : ℕ → List ℕ → Type 0
Pointed r f = ((r < 884) × (pointer_in f ≡ r)) ⊎ ((884 ≤ r) × (pointer_in f ≡ 2047))

-- frame f carries on what the desk holds
pub record Carried (d : OnDesk) (f : List ℕ) : Type 0 where
  pub lacked : ℕ
  pub lacks : Lacks d f lacked
  pub pointer : Pointed lacked f

-- it does not, and gives this event
pub data Dropped (d : OnDesk) (f : List ℕ) : List Event → Type 0 where
  -- "if a frame was seen before and the counter is not the last plus 1 modulo 2^24: event 1, and the held octets are dropped"
  by-gap : d.seen ≡ true → (Follows d f → ⊥) → Dropped d f (bare 1 ∷ [])
  -- "or with nothing held". "The first frame gives no event."
  none-held : (d.seen ≡ true → Follows d f) → d.held ≡ [] → Dropped d f []
  -- "When six are there, a bad header gives event 3 and drops the packet."
  by-header : 0 < length d.held → Follows d f → look_of (d.held ++ zone_in f) ≡ Bad → Dropped d f (bare 3 ∷ [])
  -- "if not, event 2 and the packet is dropped"
  by-pointer : (r : ℕ) → Lacks d f r → (Pointed r f → ⊥) → Dropped d f (bare 2 ∷ [])

-- the event that is given first, and the octets that are read
pub data Opens (d : OnDesk) (f : List ℕ) : List Event → List ℕ → Type 0 where
  carries-on : Carried d f → Opens d f [] (d.held ++ zone_in f)
  -- "reading begins at the pointer, or nowhere if it is 2047": a zone has 884 octets, so nothing stands behind place 2047
  begins-anew : {es : List Event} → Dropped d f es → Opens d f es (drop (pointer_in f) (zone_in f))

-- octets xs are read from their first on as the packets ps, each of them whole, one behind the other, no octet left out and none twice: what is
-- held then, and the event that is given last
pub data Closes (xs : List ℕ) (ps : List (List ℕ)) : List ℕ → List Event → Type 0 where
  -- "What is left unfinished at the zone's end is held."
  to_end : {held : List ℕ} → Wholes ps → Unfinished held → flatten ps ++ held ≡ xs → Closes xs ps held []
  -- "A bad header met later in the zone gives event 3 and drops the rest of the zone."
  to-bad : (rest : List ℕ) → Wholes ps → look_of rest ≡ Bad → flatten ps ++ rest ≡ xs → Closes xs ps [] (bare 3 ∷ [])

-- the packets that were judged under channel c, first to last
abbrev pub packet_in : Channel → Thing → List (List ℕ)
packet_in c (packet d p) = if eqb d.0 c.0 then p ∷ [] else []
packet_in c (left i d) = []
packet_in c (gone k) = []

unfoldable pub packets_under : Channel → List Thing → List (List ℕ)
packets_under c [] = []
packets_under c (t ∷ ts) = packet_in c t ++ packets_under c ts

-- an accepted frame of watched channel i: the octets that are read, its packets, what the desk has then, and its events to the last, those of its
-- packets between those of these rules
pub record OverFrame (w : World) (f list : List ℕ) (i : ℕ) : Type 0 where
  pub opening : List Event
  pub octets : List ℕ
  pub held : List ℕ
  pub closing : List Event
  pub opens : Opens (on_desk w i) f opening octets
  pub closes : Closes octets (packets_under (channel_at w.station i) (things w (frame f list))) held closing
  pub leaves : on_desk (runs.after w (frame f list)) i ≡ leaving held (counter_in f)
  pub told : said w (frame f list) ≡ opening ++ (did_all w.station w.store (things w (frame f list))).events ++ closing
  -- the packets give none of the events 1, 2 and 3
  pub higher : (e : Event) → Among e (did_all w.station w.store (things w (frame f list))).events → 4 ≤ e.kind

abbrev pub EveryFrame : Start → List Call → Type 0
EveryFrame x cs =
    (f list : List ℕ) → answer (run (fresh x) cs) (frame f list) ≡ 0
    → (i : ℕ) × (i < (run (fresh x) cs).station.channels) × (channel_at (run (fresh x) cs).station i ≡ header_channel f)
    × OverFrame (run (fresh x) cs) f list i

-- the rules leave no choice: what is carried on is not dropped, and the events and octets are a function of what came in
pub record RuledOnce : Type 0 where
  pub apart : (d : OnDesk) (f : List ℕ) {es : List Event} → Carried d f → Dropped d f es → ⊥
  -- and one of them holds of every desk of a sound state and every frame of the right size
  pub either :
      (d : OnDesk) (f : List ℕ) → Unfinished d.held → (0 < length d.held → d.seen ≡ true) → length (zone_in f) ≡ 884
      → Carried d f ⊎ ((es : List Event) × Dropped d f es)
  pub opens : (d : OnDesk) (f : List ℕ) {es fs : List Event} {xs ys : List ℕ} → Opens d f es xs → Opens d f fs ys → (es ≡ fs) × (xs ≡ ys)
  pub closes :
      (xs : List ℕ) {ps qs : List (List ℕ)} {held kept : List ℕ} {es fs : List Event} → Closes xs ps held es → Closes xs qs kept fs
      → (ps ≡ qs) × (held ≡ kept) × (es ≡ fs)
