-- What S, F, R, L and I do, on the octets lent, and what a command does by its letter. Assumes nothing.
use Rattle.std.specs.Prelude.{List, ◌++◌, ℕ, eqb, drop, replicate, if◌then◌else◌, Result}
use Rattle.refusals.specs.declared.Refusal.{Refusal}
use Rattle.facts.specs.declared.Facts.{Facts}
use Rattle.state.specs.declared.Station.{Station}
use Rattle.station.specs.SetUp.{SetUpOutcome, set_up}
use Rattle.station.specs.Frame.{FrameOutcome, framed}
use Rattle.station.specs.declared.LetGo.{LetGo}
use Rattle.station.specs.Files.{ReadOutcome, read_out, file_let_go, told_of}
use Rattle.script.specs.declared.Command.{Command}
use Rattle.script.specs.Memory.{Memory, lent_desks, lent_store, with_state, poked_by}

-- the memory with another state, and what the octets lent became
abbrev pub with : Memory → Station → List ℕ → List ℕ → Memory
with w s desks store =
    record {
      station = s;
      desks = desks ++ drop w.desks_lent w.desks;
      store = store ++ drop w.store_lent w.store;
      desks_lent = w.desks_lent;
      store_lent = w.store_lent;
    }

-- S: "set-up: spacecraft a, and b channel octets that follow as payload; after it the state is what set-up gave, also after a refusal"
abbrev pub set_up_by : Command → List ℕ → Memory → SetUpOutcome
set_up_by x channels w = set_up x.a channels (lent_desks w) (lent_store w)

unfoldable pub was_set_up : Command → List ℕ → Memory → Memory
was_set_up x channels w =
    with w (set_up_by x channels w).station (set_up_by x channels w).desks (lent_store w)

-- F: "a frame: b event numbers lent (.. all zero before each call), c octets follow as payload"
abbrev pub frame_by : Command → List ℕ → Memory → FrameOutcome
frame_by x unit w = framed w.station (lent_desks w) (lent_store w) (replicate x.b 0) unit

unfoldable pub took_frame : Command → List ℕ → Memory → Memory
took_frame x unit w = with w (frame_by x unit w).station (frame_by x unit w).desks (frame_by x unit w).store

-- R: "read of slot b, c octets .. from offset d; the buffer is all zero before"
abbrev pub read_by : Command → Memory → ReadOutcome
read_by x w = read_out w.station (lent_store w) x.b x.d (replicate x.c 0)

-- L: "lets the file of slot b go, complete or not"
abbrev pub let_go_by : Command → Memory → LetGo
let_go_by x w = file_let_go w.station x.b

unfoldable pub was_let_go : Command → Memory → Memory
was_let_go x w = with_state w (let_go_by x w).station

-- I: "the facts of the file of slot b .., lent the store as a read is"
abbrev pub told_by : Command → Memory → Result Facts Refusal
told_by x w = told_of w.station (lent_store w) x.b

-- what a command does, by its letter: S, F and L, then M, P and Q; R, I and H change nothing
unfoldable pub carried_out : Command → List ℕ → Memory → Memory
carried_out x payload w =
    if eqb x.letter 0x53 then was_set_up x payload w
    else if eqb x.letter 0x46 then took_frame x payload w
    else if eqb x.letter 0x4C then was_let_go x w
    else poked_by x w
