-- Tables by a rule. Assumes nothing.
use Rattle.std.specs.Prelude.{List, [], ◌∷◌, ℕ, zero, suc}

-- n entries in a row: what the rule gives for i, for the next number, and so on
unfoldable pub entries_from : ℕ → ℕ → (ℕ → ℕ) → List ℕ
entries_from zero i rule = []
entries_from (suc n) i rule = rule i ∷ entries_from n (suc i) rule

-- a table of n entries: at each place stands what the rule gives for it
unfoldable pub table_of : ℕ → (ℕ → ℕ) → List ℕ
table_of n rule = entries_from n 0 rule
