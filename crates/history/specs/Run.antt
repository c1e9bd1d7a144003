-- Every sequence of calls from a good set-up, "with state and memory handed back untouched". Assumes nothing.
use Rattle.std.specs.Prelude.{◌≡◌, List, [], ◌∷◌, ℕ}
use Rattle.state.specs.declared.Station.{Station}
use Rattle.station.specs.SetUp.{set_up}
use Rattle.station.specs.Frame.{FrameOutcome, framed}
use Rattle.station.specs.Files.{file_let_go, read_out}
use Rattle.station.specs.Answers.{SoundWithMemory}

-- the station, and the memory that its caller lends it again and again
pub record World : Type 0 where
  pub station : Station
  pub desks : List ℕ
  pub store : List ℕ

-- a call, with all that it brings
pub data Call : Type 0 where
  -- the octets offered as a frame, and the event list lent
  frame : List ℕ → List ℕ → Call
  -- the slot, the offset, and the buffer lent
  read : ℕ → ℕ → List ℕ → Call
  -- the slot whose file is to go
  let-go : ℕ → Call

-- what a frame call gives: the definition that the call's contract cites
abbrev pub frame_in : World → List ℕ → List ℕ → FrameOutcome
frame_in w f list = framed w.station w.desks w.store list f

-- the answer to a call
unfoldable pub answer : World → Call → ℕ
answer w (frame f list) = (frame_in w f list).answer
answer w (read k offset buffer) = (read_out w.station w.store k offset buffer).answer
answer w (let-go k) = (file_let_go w.station k).answer

-- what a call leaves behind; a read is lent the store for reading, and where a file is let go nothing is lent
unfoldable pub after : World → Call → World
after w (frame f list) = record { station = (frame_in w f list).station; desks = (frame_in w f list).desks; store = (frame_in w f list).store }
after w (read k offset buffer) = w
after w (let-go k) = record { station = (file_let_go w.station k).station; desks = w.desks; store = w.store }

-- calls, first to last
unfoldable pub run : World → List Call → World
run w [] = w
run w (c ∷ cs) = run (after w c) cs

-- a set-up that is answered by 0
pub record Start : Type 0 where
  pub spacecraft : ℕ
  pub channels : List ℕ
  pub desks : List ℕ
  pub store : List ℕ
  pub good : (set_up spacecraft channels desks store).answer ≡ 0

-- the world that it leaves
abbrev pub fresh : Start → World
fresh x =
    record {
      station = (set_up x.spacecraft x.channels x.desks x.store).station;
      desks = (set_up x.spacecraft x.channels x.desks x.store).desks;
      store = x.store;
    }

-- a sound state with its memory
abbrev pub SoundWorld : World → Type 0
SoundWorld w = SoundWithMemory w.station w.desks w.store
