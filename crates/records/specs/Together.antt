-- What the records of a header have together, where nothing is refused. Assumes nothing.
use Rattle.std.specs.Prelude.{◌≡◌, Bool, true, false, ◌&&◌, List, [], ◌∷◌, ◌⊎◌, ℕ, ◌+◌, ◌≤◌, ◌<◌, leb, ltb, eqb, length, take, if◌then◌else◌, Some}
use Rattle.octets.specs.Reasons.{decided}
use Rattle.records.specs.Table.{Field, FixedType, header_length, data_bits, length_of}
use Rattle.records.specs.Records.{field_of, header_of, records, octets_for, header_says}
use Rattle.records.specs.Reader.{read_header, read_record}
use Rattle.records.specs.declared.Record.{Record}

-- a file of whose header nothing is refused by a table of fixed types
abbrev pub Accepted : List FixedType → List ℕ → Type 0
Accepted types file = decided (header_says types file) true (λ n. false) ≡ true

-- "Others follow up to the header length": from a place on each record begins where the one before it ends, and the last ends at the end
pub data Cover (end : ℕ) : ℕ → List Record → Type 0 where
  done : Cover end end []
  next : {r : Record} {rs : List Record} → Cover end (r.place + r.length) rs → Cover end r.place (r ∷ rs)

-- whether an octet of the header is one of a record's
abbrev pub holds_octet : ℕ → Record → Bool
holds_octet i r = leb r.place i && ltb i (r.place + r.length)

-- how many records meet a test
unfoldable pub how_many : (Record → Bool) → List Record → ℕ
how_many test [] = 0
how_many test (r ∷ rs) = (if test r then 1 else 0) + how_many test rs

pub record Together (types : List FixedType) (file : List ℕ) : Type 0 where
  -- the header lies within the file, and the data field fills the rest
  pub within : field_of file 0 header_length ≤ length file
  pub filled : length file ≡ field_of file 0 header_length + octets_for (field_of file 0 data_bits)
  -- no gap and no overlap
  pub cover : Cover (field_of file 0 header_length) 0 (records (header_of file))
  pub one : (i : ℕ) → i < field_of file 0 header_length → how_many (holds_octet i) (records (header_of file)) ≡ 1
  -- a fixed type is there once at most, with its length
  pub once : (kind n : ℕ) → length_of types kind ≡ Some n → how_many (λ r. eqb r.kind kind) (records (header_of file)) ≤ 1
  pub right : (kind n : ℕ) → length_of types kind ≡ Some n
      → how_many (λ r. eqb r.kind kind && eqb r.length n) (records (header_of file)) ≡ how_many (λ r. eqb r.kind kind) (records (header_of file))

-- nothing of the data field but its length enters: a file of as many octets with the same header is answered the same
pub record HeaderAlone (file : List ℕ) : Type 0 where
  pub fields : (other : List ℕ) → length other ≡ length file → take (field_of file 0 header_length) other ≡ header_of file
      → read_header other ≡ read_header file
  pub asked : (other : List ℕ) (n : ℕ) → length other ≡ length file → take (field_of file 0 header_length) other ≡ header_of file
      → read_record other n ≡ read_record file n

-- an answer's number: 0, or one of the refusals' range
abbrev pub ZeroOr : ℕ → ℕ → ℕ → Type 0
ZeroOr low high n = (n ≡ 0) ⊎ ((low ≤ n) × (n ≤ high))

-- the fields of a record stand one behind the other, from its octet 3 to its end
abbrev pub fill : ℕ → List Field → ℕ → Bool
fill at [] end = eqb at end
fill at (f ∷ fs) end = eqb f.at at && fill (at + f.width) fs end

abbrev pub filled_types : List FixedType → Bool
filled_types [] = true
filled_types (t ∷ ts) = fill 3 t.fields t.size && filled_types ts
