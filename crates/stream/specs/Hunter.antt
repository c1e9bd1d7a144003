-- The hunter, and what its two calls give. Assumes nothing.
use Rattle.std.specs.Prelude.{◌≡◌, Bool, true, false, not, ◌&&◌, ◌||◌, List, [], ◌∷◌, ◌++◌, ℕ, suc, ◌+◌, ◌-◌, ◌≤◌, ltb, leb, eqb, length, take, drop, replicate, if◌then◌else◌}
use Rattle.octets.specs.Buffer.{all_zero}
use Rattle.stream.specs.declared.Hunter.{Hunter}
use Rattle.stream.specs.declared.Begun.{Begun}
use Rattle.stream.specs.declared.Hunted.{Hunted}
use Rattle.stream.specs.Stream.{Here, here, is_marker, righted}
use Rattle.stream.specs.Stream.Here.{Waits, Passes, Whole}

-- the octets that wait
abbrev pub held : Hunter → List ℕ
held h = take h.waiting h.octets

-- the hunter that holds w, zeros after it
unfoldable pub holding : ℕ → List ℕ → Hunter
holding k w = record { begun = true; k = k; waiting = length w; octets = w ++ replicate (1024 - length w) 0 }

-- no hunter: all zero
abbrev pub no_hunter : Hunter
no_hunter = record { begun = false; k = 0; waiting = 0; octets = replicate 1024 0 }

-- "k chosen from 0 to 3 (over 3: refusal 15)"
unfoldable pub begun_by : ℕ → Begun
begun_by k = if leb k 3 then record { answer = 0; hunter = holding k [] } else record { answer = 15; hunter = no_hunter }

-- a hunter that begin and hunt can have given
pub record Sound (h : Hunter) : Type 0 where
  -- "k chosen from 0 to 3"
  pub limit : h.k ≤ 3
  -- it was begun, and behind the octets that it holds stand zeros
  pub form : h ≡ holding h.k (held h)
  -- the octets that it holds wait: under four, or a marker and not yet all of its frame
  pub still : here h.k (held h) ≡ Waits

-- the same as a test
unfoldable pub is_sound : Hunter → Bool
is_sound h =
    h.begun
    && leb h.k 3
    && ltb h.waiting 1024
    && (ltb h.waiting 4 || is_marker h.k h.octets)
    && all_zero (drop h.waiting h.octets)

-- everything that comes out of a hunt; the portion is lent for reading
pub record HuntOutcome : Type 0 where
  pub answer : ℕ
  pub taken : ℕ
  pub found : Bool
  pub hunter : Hunter
  pub buffer : List ℕ

abbrev pub hunt_gives : ℕ → ℕ → Bool → Hunter → List ℕ → HuntOutcome
hunt_gives n taken found h buffer = record { answer = n; taken = taken; found = found; hunter = h; buffer = buffer }

abbrev pub gave_hunt : Hunted → List ℕ → HuntOutcome
gave_hunt r buffer = hunt_gives r.answer r.taken r.found r.hunter buffer

-- the stream as one call sees it: what waits, then the portion
abbrev pub seen : Hunter → List ℕ → List ℕ
seen h xs = held h ++ xs

-- how many octets are passed over up to the first marker by the rule, or up to where under four are left
unfoldable pub passed : ℕ → List ℕ → ℕ
passed k [] = 0
passed k (x ∷ xs) = elim (here k (x ∷ xs)) [ Waits ↦ 0 | Passes ↦ suc (passed k xs) | Whole ↦ 0 ]

abbrev pub rest_of : ℕ → List ℕ → List ℕ
rest_of k xs = drop (passed k xs) xs

-- "A call stops after one frame and says how many octets it took": with a frame, those up to its last one; without one, all of the portion
abbrev pub hunted_at : Here → ℕ → ℕ → List ℕ → List ℕ → List ℕ → HuntOutcome
hunted_at Whole k waiting s xs buffer = hunt_gives 0 (passed k s + 1024 - waiting) true (holding k []) (righted (take 1024 (rest_of k s)))
hunted_at Waits k waiting s xs buffer = hunt_gives 0 (length xs) false (holding k (rest_of k s)) buffer
hunted_at Passes k waiting s xs buffer = hunt_gives 0 (length xs) false (holding k (rest_of k s)) buffer

unfoldable pub hunt_of : Hunter → List ℕ → List ℕ → HuntOutcome
hunt_of h xs buffer = hunted_at (here h.k (rest_of h.k (seen h xs))) h.k h.waiting (seen h xs) xs buffer

-- 1: the frame buffer is not 1,024 octets; 2: the hunter is not sound. A refused call changes nothing.
unfoldable pub hunted : Hunter → List ℕ → List ℕ → HuntOutcome
hunted h xs buffer =
    if not (eqb (length buffer) 1024) then hunt_gives 1 0 false h buffer
    else if not (is_sound h) then hunt_gives 2 0 false h buffer
    else hunt_of h xs buffer
