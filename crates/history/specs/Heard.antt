-- "Frames", 4 to 6, over all frames of a channel (Openings.antt has them over one): what was heard is a row of contiguous stretches of the zones
-- of consecutive accepted frames, each from a place on that a pointer named. Assumes nothing.
use Rattle.std.specs.Prelude.{◌≡◌, false, ◌&&◌, List, [], ◌∷◌, ◌++◌, ℕ, ◌+◌, ◌%◌, ◌<◌, eqb, drop, if◌then◌else◌}
use Rattle.frame.specs.declared.Channel.{Channel}
use Rattle.events.specs.Event.{Event}
use Rattle.station.specs.Frame.{channel_at}
use Rattle.history.specs.Run as runs
use Rattle.history.specs.Run.{World, Call, answer, run, Start, fresh}
use Rattle.history.specs.Run.Call.{frame, read, let-go}
use Rattle.history.specs.Things.{all_things}
use Rattle.history.specs.Sorted.{header_channel}
use Rattle.history.specs.Openings.{counter_in, pointer_in, zone_in, OnDesk, on_desk, leaving, Dropped, Opens, Closes, packets_under}

-- a desk before its first frame
abbrev pub unheard : OnDesk
unheard = record { held = []; seen = false; last = 0 }

-- frame by frame: the accepted frames of a channel, the packets that were judged, and the desk at the end
pub data Listened : List (List ℕ) → List (List ℕ) → OnDesk → Type 0 where
  silence : Listened [] [] unheard
  one_more : {fs ps : List (List ℕ)} {d : OnDesk} {f xs held : List ℕ} {es zs : List Event} (qs : List (List ℕ)) → Listened fs ps d → Opens d f es xs
      → Closes xs qs held zs → Listened (fs ++ (f ∷ [])) (ps ++ qs) (leaving held (counter_in f))

-- a stretch that begins in frame f: the frames that it runs over, the counter of the last, and its octets
pub data Stretch (f : List ℕ) : List (List ℕ) → ℕ → List ℕ → Type 0 where
  -- "reading begins at the pointer"
  begins : Stretch f (f ∷ []) (counter_in f) (drop (pointer_in f) (zone_in f))
  -- the zone of the next frame, all of it, if none is missing
  goes_on : (g : List ℕ) {fs : List (List ℕ)} {n : ℕ} {xs : List ℕ} → Stretch f fs n xs → counter_in g ≡ (n + 1) % 0x1000000
      → Stretch f (fs ++ (g ∷ [])) (counter_in g) (xs ++ zone_in g)

-- the same in stretches. Every accepted frame stands in one of them, and every packet is cut from one of them: no packet has octets from both
-- sides of a gap. The octets of a stretch are its packets, and then what is held, or a rest that begins with a bad header. Between two stretches
-- is a drop, with its reason.
pub data Heard : List (List ℕ) → List (List ℕ) → OnDesk → Type 0 where
  nothing : Heard [] [] unheard
  and_then : {fs gs ps : List (List ℕ)} {d : OnDesk} {f xs held : List ℕ} {n : ℕ} {es zs : List Event} (qs : List (List ℕ)) → Heard fs ps d
      → Dropped d f es → Stretch f gs n xs → Closes xs qs held zs → Heard (fs ++ gs) (ps ++ qs) (leaving held n)

-- the accepted frames of channel c, first to last
abbrev pub accepted_in : World → Call → Channel → List (List ℕ)
accepted_in w (frame f list) c = if eqb (answer w (frame f list)) 0 && eqb (header_channel f).0 c.0 then f ∷ [] else []
accepted_in w (read k offset buffer) c = []
accepted_in w (let-go k) c = []

unfoldable pub accepted : World → List Call → Channel → List (List ℕ)
accepted w [] c = []
accepted w (call ∷ cs) c = accepted_in w call c ++ accepted (runs.after w call) cs c

-- watched channel i, with its accepted frames fs and the packets ps that were judged
pub record ChannelHeard (v : World) (i : ℕ) (fs ps : List (List ℕ)) : Type 0 where
  pub heard : Heard fs ps (on_desk v i)
  pub listened : Listened fs ps (on_desk v i)
  -- no other packets, and no other desk, can be had from these frames
  pub only : {qs : List (List ℕ)} {d : OnDesk} → Listened fs qs d → (qs ≡ ps) × (d ≡ on_desk v i)

abbrev pub EveryChannelHeard : Start → List Call → Type 0
EveryChannelHeard x cs =
    (i : ℕ) → i < (fresh x).station.channels
    → ChannelHeard (run (fresh x) cs) i (accepted (fresh x) cs (channel_at (fresh x).station i))
    (packets_under (channel_at (fresh x).station i) (all_things (fresh x) cs))
