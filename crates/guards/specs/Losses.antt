-- Runs of real frames in which octets are lost: what each of them gives, to the last event. They meet every case of history's
-- specs/Openings.antt. Assumes nothing.
use Rattle.std.specs.Prelude.{◌≡◌, List, [], ◌∷◌, ◌++◌, ℕ, ◌-◌, ◌≤◌, length, take, drop, replicate}
use Rattle.events.specs.Event.{Event, bare, at}
use Rattle.history.specs.Run.{Call, Start, fresh}
use Rattle.history.specs.Run.Call.{frame}
use Rattle.guards.specs.Sent.{Program, sent, all_said, fill, whole}

-- a frame in which a packet of 19 octets begins: ten of them are held at its end, and nine are lacking
abbrev pub ten_held : List ℕ → Call
ten_held list = frame (sent 0 0 (fill 874 ++ take 10 whole)) list

-- a frame with counter n that begins with these octets, and then has a whole packet, where its pointer points, and fill
abbrev pub whole_behind : ℕ → List ℕ → List ℕ → Call
whole_behind n front list = frame (sent n (length front) (front ++ whole ++ fill (865 - length front))) list

-- the nine octets that are lacking, and ten others
abbrev pub nine : List ℕ
nine = drop 10 whole

abbrev pub ten : List ℕ
ten = replicate 10 0

-- the counter of a frame before which one is lost: the last was 0
abbrev pub jumped : ℕ
jumped = 2

-- a header with length 0xffff, which is bad
abbrev pub bad_header : List ℕ
bad_header = 0 ∷ 5 ∷ 0xc0 ∷ 0 ∷ 0xff ∷ 0xff ∷ []

-- the events of a whole packet that opens slot k
abbrev pub opens_at : ℕ → List Event
opens_at k = at 10 5 k ∷ at 12 5 k ∷ []

pub record Losses (x : Start) (list : List ℕ) : Type 0 where
  -- nothing lost: the packet that is carried on, and then the one behind it
  pub carried : all_said (fresh x) (ten_held list ∷ whole_behind 1 nine list ∷ []) ≡ opens_at 0 ++ opens_at 1
  -- the same octets with a counter that jumps: "event 1, and the held octets are dropped", and reading begins at the pointer
  pub gap : all_said (fresh x) (ten_held list ∷ whole_behind jumped nine list ∷ []) ≡ bare 1 ∷ opens_at 0
  -- nine octets are lacking and the pointer is ten: "event 2 and the packet is dropped"
  pub off-pointer : all_said (fresh x) (ten_held list ∷ whole_behind 1 ten list ∷ []) ≡ bare 2 ∷ opens_at 0
  -- three octets of a header are held, and with the next three it is bad: "event 3 and drops the packet"
  pub bad-carried :
      all_said (fresh x) (frame (sent 0 0 (fill 881 ++ take 3 bad_header)) list ∷ whole_behind 1 (drop 3 bad_header) list ∷ []) ≡ bare 3 ∷ opens_at 0
  -- "A bad header met later in the zone gives event 3 and drops the rest of the zone": the whole packet behind it is not read, and nothing is held
  pub bad-later :
      all_said (fresh x) (frame (sent 0 0 (whole ++ bad_header ++ whole ++ fill 840)) list ∷ whole_behind 1 [] list ∷ [])
      ≡ opens_at 0 ++ (bare 3 ∷ opens_at 1)
  -- "or nowhere if it is 2047"
  pub idle : all_said (fresh x) (frame (sent 0 2047 (whole ++ fill 865)) list ∷ whole_behind 1 [] list ∷ []) ≡ opens_at 0
  -- a frame between them that is refused for its pointer is not seen, so that the next one comes after a gap
  pub refused :
      all_said (fresh x) (ten_held list ∷ frame (sent 1 884 (nine ++ whole ++ fill 856)) list ∷ whole_behind jumped nine list ∷ [])
      ≡ bare 1 ∷ opens_at 0
  -- "The first frame gives no event", whatever its counter
  pub first_frame : all_said (fresh x) (whole_behind 7 [] list ∷ []) ≡ opens_at 0

-- from any set-up of the program and with any list of the size that is asked for
abbrev pub LossRuns : Type 0
LossRuns = (x : Start) → Program x → (list : List ℕ) → 900 ≤ length list → Losses x list
