-- The k that the command's words choose. Assumes nothing.
use Rattle.std.specs.Prelude.{◌&&◌, List, [], ◌∷◌, ℕ, ◌+◌, ◌-◌, ◌≤◌, leb, eqb, if◌then◌else◌}

-- `Chooses words first k`: so many words, the program's own name among them, of which this is the first behind it, choose k
pub data Chooses : ℕ → List ℕ → ℕ → Type 0 where
  -- "without an argument it is 0"
  none : {words : ℕ} {first : List ℕ} → words ≤ 1 → Chooses words first 0
  -- "K is one digit from 0 to 3"
  one : {k : ℕ} → k ≤ 3 → Chooses 2 ((0x30 + k) ∷ []) k

-- the same as a function. A k over 3 is refused by 15: that of a digit over 3, and 255 for "any other argument, or more than one".
abbrev pub digit_of : List ℕ → ℕ
digit_of [] = 255
digit_of (d ∷ []) = if leb 0x30 d && leb d 0x39 then d - 0x30 else 255
digit_of (d ∷ e ∷ ds) = 255

unfoldable pub chosen_by : ℕ → List ℕ → ℕ
chosen_by words first = if leb words 1 then 0 else if eqb words 2 then digit_of first else 255
