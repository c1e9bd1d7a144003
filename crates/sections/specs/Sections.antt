-- Sections: "each after its count of two octets", entries of fixed widths. A row is the list of an entry's numbers; the widths of its
-- fields are a parameter of everything here. Assumes nothing.
use Rattle.std.specs.Prelude.{Bool, ◌&&◌, List, [], ◌∷◌, ◌++◌, ℕ, zero, suc, ◌+◌, ◌*◌, ◌^◌, ◌<◌, leb, eqb, length, drop}
use Rattle.octets.specs.Number.{number_at, in_octets}

abbrev pub Row : Type 0
Row = List ℕ

-- the octets of an entry whose fields have these widths
abbrev pub size : List ℕ → ℕ
size [] = 0
size (w ∷ ws) = w + size ws

-- an entry as octets
abbrev pub row : List ℕ → Row → List ℕ
row [] vs = []
row (w ∷ ws) [] = []
row (w ∷ ws) (v ∷ vs) = in_octets w v ++ row ws vs

unfoldable pub rows : List ℕ → List Row → List ℕ
rows ws [] = []
rows ws (r ∷ rs) = row ws r ++ rows ws rs

-- a section: its count, then its entries
unfoldable pub section : List ℕ → List Row → List ℕ
section ws rs = in_octets 2 (length rs) ++ rows ws rs

-- sections behind each other
unfoldable pub sections : List (List ℕ) → List (List Row) → List ℕ
sections [] ts = []
sections (ws ∷ wss) [] = []
sections (ws ∷ wss) (t ∷ ts) = section ws t ++ sections wss ts

-- the numbers of the entry that begins `at` octets on
abbrev pub values : List ℕ → List ℕ → ℕ → Row
values [] xs at = []
values (w ∷ ws) xs at = number_at xs at w ∷ values ws xs (at + w)

-- the first n entries
unfoldable pub entries : List ℕ → ℕ → List ℕ → List Row
entries ws zero xs = []
entries ws (suc n) xs = values ws xs 0 ∷ entries ws n (drop (size ws) xs)

-- what a section that begins here would take: its count, and so many entries
unfoldable pub extent : List ℕ → List ℕ → ℕ
extent ws xs = 2 + number_at xs 0 2 * size ws

unfoldable pub section_of : List ℕ → List ℕ → List Row
section_of ws xs = entries ws (number_at xs 0 2) (drop 2 xs)

unfoldable pub sections_of : List (List ℕ) → List ℕ → List (List Row)
sections_of [] xs = []
sections_of (ws ∷ wss) xs = section_of ws xs ∷ sections_of wss (drop (extent ws xs) xs)

-- whether octets are just so many sections, with nothing behind them
unfoldable pub whole : List (List ℕ) → List ℕ → Bool
whole [] xs = eqb (length xs) 0
whole (ws ∷ wss) xs = leb (extent ws xs) (length xs) && whole wss (drop (extent ws xs) xs)

-- each number has room in its field
pub data Fits : List ℕ → Row → Type 0 where
  no_field : Fits [] []
  field : {w v : ℕ} {ws vs : List ℕ} → v < 256 ^ w → Fits ws vs → Fits (w ∷ ws) (v ∷ vs)

pub data AllFit (ws : List ℕ) : List Row → Type 0 where
  no-entry : AllFit ws []
  entry : {r : Row} {rs : List Row} → Fits ws r → AllFit ws rs → AllFit ws (r ∷ rs)

pub data Sections : List (List ℕ) → List (List Row) → Type 0 where
  no-section : Sections [] []
  another : {ws : List ℕ} {wss : List (List ℕ)} {t : List Row} {ts : List (List Row)} → length t < 65536 → AllFit ws t → Sections wss ts
      → Sections (ws ∷ wss) (t ∷ ts)

-- the same by the entries' sizes alone
unfoldable pub whole_by : List ℕ → List ℕ → Bool
whole_by [] xs = eqb (length xs) 0
whole_by (w ∷ ws) xs = leb (2 + number_at xs 0 2 * w) (length xs) && whole_by ws (drop (2 + number_at xs 0 2 * w) xs)
