-- The form of a question. Assumes nothing.
use Rattle.std.specs.Prelude.{Option, Some, None, List, [], ◌∷◌, ℕ, eqb, take, if◌then◌else◌}
use Rattle.vectors.specs.Digits.{octets_of}

-- "a letter from the table, then nothing, or one space and an even number of hexadecimal digits": the octets, behind any letter
unfoldable pub question_of : List ℕ → Option (List ℕ)
question_of [] = None
question_of (letter ∷ []) = Some []
question_of (letter ∷ space ∷ ds) = if eqb space 0x20 then octets_of ds else None

-- the octets that a decoding left at the start of a buffer
abbrev pub found_in : Option ℕ → List ℕ → Option (List ℕ)
found_in (Some n) xs = Some (take n xs)
found_in None xs = None

abbrev pub count_of : Option ℕ → ℕ
count_of (Some n) = n
count_of None = 0
