-- "The lowest number that applies is given": reasons to refuse, in the order in which they are tried, each a number with the test that it
-- applies. Assumes nothing.
use Rattle.std.specs.Prelude.{Bool, false, ◌&&◌, ◌||◌, List, [], ◌∷◌, ℕ, eqb, if◌then◌else◌}

infix 70 ◌when◌
pub data Reason : Type 0 where
  ◌when◌ : ℕ → Bool → Reason

-- "Every number but 0 .. changes nothing": what was to be done is done where no reason applies; else the first that does refuses it
abbrev pub decided : {A : Type 0} → List Reason → A → (ℕ → A) → A
decided [] done refused = done
decided ((n when b) ∷ rs) done refused = if b then refused n else decided rs done refused

-- the numbers that can be given, but for 0
abbrev pub numbers : List Reason → List ℕ
numbers [] = []
numbers ((n when b) ∷ rs) = n ∷ numbers rs

-- whether a number applies
abbrev pub applies : List Reason → ℕ → Bool
applies [] m = false
applies ((n when b) ∷ rs) m = eqb n m && b || applies rs m
