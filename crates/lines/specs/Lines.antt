-- Whole lines: of events, of what a trial prints of a call (docs/TRIAL.md), and the last one of a program. Assumes nothing.
use Rattle.std.specs.Prelude.{Bool, not, ◌&&◌, ℕ, zero, suc, eqb, length, get_or, drop, if◌then◌else◌}
use mathlib.Core.List.{List, [], ◌∷◌, ◌++◌, flat_map}
use Rattle.text.specs.Pieces.{spaced, in_hex}
use Rattle.text.specs.Lines.{spaced_three, newline}

-- "E kind application slot"
abbrev pub event_line : ℕ → ℕ → ℕ → List ℕ
event_line kind application slot = 0x45 ∷ [] ++ spaced_three kind application slot ++ newline

-- the lines of the first n events of a list that has three numbers for each
unfoldable pub event_lines : ℕ → List ℕ → List ℕ
event_lines zero list = []
event_lines (suc n) list = event_line (get_or list 0 0) (get_or list 1 0) (get_or list 2 0) ++ event_lines n (drop 3 list)

-- "END" and two numbers: the last line of a program that takes its input piece by piece
abbrev pub end_line : ℕ → ℕ → List ℕ
end_line pieces left = 0x45 ∷ 0x4E ∷ 0x44 ∷ [] ++ spaced pieces ++ spaced left ++ newline

-- "S answer": a letter and a number
abbrev pub answer_line : ℕ → ℕ → List ℕ
answer_line letter answer = letter ∷ [] ++ spaced answer ++ newline

-- "F answer count (count 0 after a refusal), then for each event E kind application slot"
abbrev pub frame_lines : ℕ → ℕ → List ℕ → List ℕ
frame_lines answer count list = 0x46 ∷ [] ++ spaced answer ++ spaced count ++ newline ++ event_lines count list

-- "after 0 a space and the octets in lower-case hexadecimal, two digits each (nothing and no space for length 0)"
abbrev pub octets_read : ℕ → List ℕ → List ℕ
octets_read answer octets = if eqb answer 0 && not (eqb (length octets) 0) then 0x20 ∷ in_hex octets else []

-- "R answer", and the octets
abbrev pub read_line : ℕ → List ℕ → List ℕ
read_line answer octets = 0x52 ∷ [] ++ spaced answer ++ octets_read answer octets ++ newline

-- "after 0 a space and 1 if the file was complete, else 0"
abbrev pub report : ℕ → Bool → List ℕ
report answer complete = if eqb answer 0 then 0x20 ∷ (if complete then 0x31 else 0x30) ∷ [] else []

-- "L answer", and whether the file was complete
abbrev pub let_go_line : ℕ → Bool → List ℕ
let_go_line answer complete = 0x4C ∷ [] ++ spaced answer ++ report answer complete ++ newline

-- "I answer", "and after 0 a space and the channel, the application, the file counter and the length L of the file": a number, and the values
-- that go with it
abbrev pub told_line : ℕ → List ℕ → List ℕ
told_line answer values = 0x49 ∷ [] ++ spaced answer ++ flat_map spaced values ++ newline
