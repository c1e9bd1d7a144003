-- What a lent buffer holds after a run of stores, and when a stretch of it is blank. Assumes nothing.
use Rattle.std.specs.Prelude.{Bool, true, ◌&&◌, List, [], ◌∷◌, ℕ, eqb}
use Rattle.std.proofs.lemmas.List.Edits.{sets}

-- the buffer `xs` with `what` stored from place `at` on, and all else as it was
unfoldable pub put : List ℕ → ℕ → List ℕ → List ℕ
put xs at what = sets xs at what

-- no octet but zero
unfoldable pub all_zero : List ℕ → Bool
all_zero [] = true
all_zero (x ∷ xs) = eqb x 0 && all_zero xs

-- no octet but zero in four stretches
abbrev pub four_zero : List ℕ → List ℕ → List ℕ → List ℕ → Bool
four_zero a b c d = (all_zero a && all_zero b) && (all_zero c && all_zero d)
