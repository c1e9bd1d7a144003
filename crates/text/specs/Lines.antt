-- What lines are made of: numbers in a row, and the line's end. Assumes nothing.
use Rattle.std.specs.Prelude.{List, [], ◌∷◌, ◌++◌, ℕ}
use Rattle.text.specs.Pieces.{spaced}

-- three numbers, each behind a space
abbrev pub spaced_three : ℕ → ℕ → ℕ → List ℕ
spaced_three a b c = spaced a ++ spaced b ++ spaced c

-- "one newline after each line"
abbrev pub newline : List ℕ
newline = 0x0A ∷ []
