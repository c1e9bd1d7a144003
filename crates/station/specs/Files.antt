-- A file read, told of, and let go. Assumes nothing.
use Rattle.std.specs.Prelude.{Bool, true, false, not, ◌&&◌, List, [], ◌∷◌, ℕ, ◌-◌, ◌*◌, leb, ltb, eqb, length, if◌then◌else◌, Result, Ok, Err}
use Rattle.octets.specs.Number.{part}
use Rattle.refusals.specs.declared.Refusal.{Refusal}
use Rattle.refusals.specs.Refusals.{refuse}
use Rattle.facts.specs.declared.Facts.{Facts}
use Rattle.transport.specs.Length.{transport_of, octets_of_bits}
use Rattle.state.specs.declared.Station.{Station}
use Rattle.state.specs.Slots.{slot_at, held, complete}
use Rattle.state.specs.Blocks.{blocks_of}
use Rattle.state.specs.Decision.{is_sound}
use Rattle.room.specs.Move.{let_go}
use Rattle.room.specs.File.{joined, file_octets}
use Rattle.station.specs.declared.Answered.{Answered}
use Rattle.station.specs.declared.LetGo.{LetGo}
use Rattle.station.specs.declared.Held.{Held}
use Rattle.station.specs.declared.Held.TheVariants.{Complete, Incomplete}

abbrev pub answered : ℕ → Station → Answered
answered n s = record { answer = n; station = s }

-- "11: slot 32 or more, or not held"
abbrev pub is_held : Station → ℕ → Bool
is_held s k = ltb k 32 && held (slot_at s k)

-- what every call that names a slot asks first: "2: state not sound", then 11; then it is known whether the file is complete
unfoldable pub asked : Station → ℕ → Result Held Refusal
asked s k =
    if not (is_sound s) then refuse 2
    else if not (is_held s k) then refuse 11
    else if complete (slot_at s k) then Ok (Complete k)
    else Ok (Incomplete k)

-- the file of slot k, complete or not, let go: its slot and blocks are free
abbrev pub freed : Station → ℕ → Bool → LetGo
freed s k whole = record { answer = 0; complete = whole; station = let_go s k }

-- "Every number but 0 carries no other result and changes nothing": what a refused call reports is always false
abbrev pub kept : Station → ℕ → LetGo
kept s n = record { answer = n; complete = false; station = s }

-- "one operation that frees any held file and reports whether it was complete" (02, 3/14)
unfoldable pub let_go_as : Station → Result Held Refusal → LetGo
let_go_as s (Err n) = kept s n.0
let_go_as s (Ok (Complete k)) = freed s k true
let_go_as s (Ok (Incomplete k)) = freed s k false

unfoldable pub file_let_go : Station → ℕ → LetGo
file_let_go s k = let_go_as s (asked s k)

-- everything that comes out of a read; state and store stay, for they are taken by value and lent for reading
pub record ReadOutcome : Type 0 where
  pub answer : ℕ
  pub buffer : List ℕ

abbrev pub read_gives : ℕ → List ℕ → ReadOutcome
read_gives n buffer = record { answer = n; buffer = buffer }

-- "store not whole blocks, 1 to 4,096, as many as at set-up"
abbrev pub store_fits : ℕ → List ℕ → Bool
store_fits blocks store = leb 1 blocks && leb blocks 4096 && eqb (length store) (8190 * blocks)

-- n octets from an offset on lie within a file of so many octets: "length 0 at the very end is allowed"
abbrev pub within : ℕ → ℕ → ℕ → Bool
within size offset n = leb offset size && leb n (size - offset)

-- "12: read .. of an incomplete file" ("12 stays for reads": 02, 3/14); "14: read passes the file's end"; "A read copies file octets from a
-- given offset .. to fill a lent buffer"
unfoldable pub read_as : Station → List ℕ → ℕ → List ℕ → Result Held Refusal → ReadOutcome
read_as s store offset buffer (Err n) = read_gives n.0 buffer
read_as s store offset buffer (Ok (Incomplete k)) = read_gives 12 buffer
read_as s store offset buffer (Ok (Complete k)) =
    if within (octets_of_bits (slot_at s k).bits) offset (length buffer)
    then read_gives 0 (part offset (length buffer) (file_octets s store k))
    else read_gives 14 buffer

unfoldable pub read_out : Station → List ℕ → ℕ → ℕ → List ℕ → ReadOutcome
read_out s store k offset buffer =
    if store_fits s.blocks store then read_as s store offset buffer (asked s k) else read_gives 1 buffer

-- "the 16-bit file counter": the first two of the ten transport octets, with which the blocks of the file begin
unfoldable pub counter_in : Station → List ℕ → ℕ → ℕ
counter_in s store k = (transport_of (joined store (blocks_of s k))).counter

-- what a catalogue has of the file in slot k beside what its header says: "channel 1, application 2, file counter 2, L 8" (02, 5/14). The slot
-- has all of it but the counter
unfoldable pub facts_in : Station → List ℕ → ℕ → Facts
facts_in s store k =
    record {
      channel = (slot_at s k).channel;
      application = (slot_at s k).application;
      counter = counter_in s store k;
      bits = (slot_at s k).bits;
    }

-- the facts of a complete file; an incomplete one is refused as a read of it is: "12: read .. of an incomplete file"
unfoldable pub told_as : Station → List ℕ → Result Held Refusal → Result Facts Refusal
told_as s store (Err n) = Err n
told_as s store (Ok (Incomplete k)) = refuse 12
told_as s store (Ok (Complete k)) = Ok (facts_in s store k)

-- it is lent the store, as a read is; state and store stay, for they are taken by value and lent for reading
unfoldable pub told_of : Station → List ℕ → ℕ → Result Facts Refusal
told_of s store k = if store_fits s.blocks store then told_as s store (asked s k) else refuse 1

-- "a definition gives this paper's number and values for each of the enum's cases": the number
abbrev pub told_number : Result Facts Refusal → ℕ
told_number (Err n) = n.0
told_number (Ok f) = 0

-- and the values: "Every number but 0 carries no other result"
abbrev pub told_values : Result Facts Refusal → List ℕ
told_values (Err n) = []
told_values (Ok f) = f.channel.0 ∷ f.application.0 ∷ f.counter ∷ f.bits ∷ []
