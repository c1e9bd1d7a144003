-- Demand 3 at every moment of a run, and not between calls alone: what a slot holds, and that event 6 frees at once; and what is free when a file
-- was let go. Assumes nothing.
use Rattle.std.specs.Prelude.{◌≡◌, true, ◌⊎◌, ◌↔◌, List, [], ◌∷◌, ◌++◌, ℕ, ◌<◌}
use Rattle.frame.specs.declared.Channel.{Channel}
use Rattle.packet.specs.Header.{packet_of}
use Rattle.state.specs.declared.Station.{Station}
use Rattle.state.specs.Slots.{slot_at, no_file, held, head_of}
use Rattle.state.specs.Blocks.{blocks_of, Stands}
use Rattle.events.specs.Event.{at, Among}
use Rattle.judge.specs.Judge.{judged}
use Rattle.history.specs.Run.{World, answer, after, fresh}
use Rattle.history.specs.Run.Call.{let-go}
use Rattle.history.specs.Things.{Thing, all_things}
use Rattle.history.specs.Things.Thing.{packet}
use Rattle.history.specs.Files.{HoldsWhatCame}
use Rattle.history.specs.Store.{Free, Moment, station_at, store_at}

-- all that happened from the set-up to the moment; and with its packet judged
abbrev pub things_at : Moment → List Thing
things_at m = all_things (fresh m.start) m.calls ++ m.before

abbrev pub things_with : Moment → List Thing
things_with m = things_at m ++ (packet m.channel m.p ∷ [])

-- "opened .. with nothing ending it by the paper's rules": a slot holds what came so, and nothing else, before each packet of a frame and
-- after it
pub record HeldThen (m : Moment) : Type 0 where
  pub before : HoldsWhatCame m.start (things_at m) (station_at m)
  pub after : HoldsWhatCame m.start (things_with m) (judged m.channel (station_at m) (store_at m) m.p).station

-- packet p, judged under channel c, gives event n for slot k
abbrev pub Gives : ℕ → Station → List ℕ → Channel → List ℕ → ℕ → Type 0
Gives n s store c p k = Among (at n (packet_of p).application.0 k) (judged c s store p).events

-- "An abandoned .. file frees its slot and blocks": there and then, and not at the frame's end
pub record Freed (s : Station) (store : List ℕ) (c : Channel) (p : List ℕ) (k : ℕ) : Type 0 where
  -- the slot is free and has no block, unless the same packet begins a file in it
  pub slot :
      ((slot_at (judged c s store p).station k ≡ no_file) × (blocks_of (judged c s store p).station k ≡ [])) ⊎ Gives 10 s store c p k
  -- each block that the file had is free, unless it is one of the file that the same packet begins
  pub blocks :
      (b i : ℕ) → Stands s b k i
      → Free (judged c s store p).station b
      ⊎ ((j : ℕ) × Gives 10 s store c p j × ((n : ℕ) × Stands (judged c s store p).station b j n))

-- "an incomplete file of the pair is abandoned, event 6"; "If not, event 6."
abbrev pub FreesAtOnce : Station → List ℕ → Channel → List ℕ → Type 0
FreesAtOnce s store c p = (k : ℕ) → k < 32 → Gives 6 s store c p k → Freed s store c p k

-- the file of slot k is no more, and its slot and blocks are free; "block octets stay", and so do desks, set-up and all other files
pub record Gone (w v : World) (k : ℕ) : Type 0 where
  pub slot : slot_at v.station k ≡ no_file
  pub none : blocks_of v.station k ≡ []
  pub blocks : (b i : ℕ) → Stands w.station b k i → Free v.station b
  pub store : v.store ≡ w.store
  pub desks : v.desks ≡ w.desks
  pub head : head_of v.station ≡ head_of w.station
  pub others : (j : ℕ) → (j ≡ k → ⊥) → (slot_at v.station j ≡ slot_at w.station j) × (blocks_of v.station j ≡ blocks_of w.station j)

-- "one operation that frees any held file" (02, 3/14), complete or not; and "11 stays"
pub record LettingGo (w : World) (k : ℕ) : Type 0 where
  pub any : (answer w (let-go k) ≡ 0) ↔ ((k < 32) × (held (slot_at w.station k) ≡ true))
  pub gone : answer w (let-go k) ≡ 0 → Gone w (after w (let-go k)) k
  pub by-11 : (answer w (let-go k) ≡ 0 → ⊥) → answer w (let-go k) ≡ 11

abbrev pub LetsGo : World → Type 0
LetsGo w = (k : ℕ) → LettingGo w k
