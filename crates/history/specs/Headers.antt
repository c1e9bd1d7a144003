-- Demand 2, "and its header records are read to their published meaning or refused by number": the octets that a read of a complete file
-- gives, and what the header reader says of them. Assumes nothing.
use Rattle.std.specs.Prelude.{◌≡◌, true, ◌⊎◌, ℕ, ◌≤◌, ◌<◌, replicate, Some, None, Ok}
use mathlib.Core.List.{List, Memᴰ}
use Rattle.octets.specs.Reasons.{decided}
use Rattle.refusals.specs.Refusals.{refuse}
use Rattle.transport.specs.Length.{octets_of_bits}
use Rattle.records.specs.declared.Record.{Record}
use Rattle.records.specs.Table.{fixed_types, length_of}
use Rattle.records.specs.Records.{header_of, records, header_says, nth, place_of}
use Rattle.records.specs.Reader.{fields_of, read_header, read_record}
use Rattle.records.specs.Together.{Together}
use Rattle.state.specs.Slots.{slot_at, complete}
use Rattle.history.specs.Run.{World, Call, answer, run, Start, fresh}
use Rattle.history.specs.Run.Call.{read}
use Rattle.history.specs.Calls.{result_of}
use Rattle.history.specs.Ledger.{Page, ledger_run, no_pages}
use Rattle.history.specs.Files.{carried}

-- "the fixed fields or their absence": the place at which the fields of a type are read is that of its one record
pub record Placed (header : List ℕ) : Type 0 where
  pub there : (r : Record) (n : ℕ) → Memᴰ r (records header) → length_of fixed_types r.kind ≡ Some n
      → place_of r.kind (records header) ≡ Some r.place
  pub absent : (kind : ℕ) → ((r : Record) → Memᴰ r (records header) → r.kind ≡ kind → ⊥) → place_of kind (records header) ≡ None

-- "read to their published meaning": no number applies. The records cover the header, each fixed type has its length and is there once at
-- most (Together); the answer holds the fixed fields, each read at its record; and a record is given by its number, or 27
pub record ReadToMeaning (file : List ℕ) : Type 0 where
  pub none : decided (header_says fixed_types file) 0 (λ n. n) ≡ 0
  pub together : Together fixed_types file
  pub placed : Placed (header_of file)
  pub fields : read_header file ≡ Ok (fields_of (header_of file))
  pub asked : (n : ℕ) → read_record file n ≡ nth (records (header_of file)) n

-- "or refused by number": the first that applies of the table, 20 to 26, and no other result
pub record RefusedBy (file : List ℕ) (n : ℕ) : Type 0 where
  pub first : decided (header_says fixed_types file) 0 (λ m. m) ≡ n
  pub range : (20 ≤ n) × (n ≤ 26)
  pub fields : read_header file ≡ refuse n
  pub asked : (i : ℕ) → read_record file i ≡ refuse n

abbrev pub HeaderRight : List ℕ → Type 0
HeaderRight file = ReadToMeaning file ⊎ ((n : ℕ) × RefusedBy file n)

-- a read of the whole file, from its start into a buffer of its size
abbrev pub whole_read : World → ℕ → Call
whole_read w k = read k 0 (replicate (octets_of_bits (slot_at w.station k).bits) 0)

-- the file of slot k, whose packets carried the page
pub record HeaderOf (w : World) (k : ℕ) (page : Page) : Type 0 where
  pub answer : answer w (whole_read w k) ≡ 0
  pub octets : result_of w (whole_read w k) ≡ carried page
  pub header : HeaderRight (result_of w (whole_read w k))

abbrev pub HeadersRead : Start → List Call → Type 0
HeadersRead x cs =
    (k : ℕ) → k < 32 → complete (slot_at (run (fresh x) cs).station k) ≡ true → HeaderOf (run (fresh x) cs) k (ledger_run (fresh x) cs no_pages k)
