-- The octets of a script, taken one by one. Assumes nothing.
use mathlib.Core.Path.{◌≡◌, ap, sym, ◌∙◌}
use mathlib.Core.List.{List}
use Prim.Native.Nat.{ℕ, ◌+◌, ◌≤◌, ◌<◌}
use native.Mathlib.Numerals.{add-one}
use lib.ListN.{length, get_or, drop, drop_of_length-le}
use lib.Seq.{drop-cons}
use Rattle.vectors.specs.Kept.{Kept, came, all_came}

module _ (xs : List ℕ) (i : ℕ) (k : Kept) {goal : Kept} (g : goal ≡ all_came (drop i xs) k) where
  pub came-more : (next : Kept) → i < length xs → next ≡ came (get_or xs i 0) k → goal ≡ all_came (drop (i + 1) xs) next
  unfolding all_came
  came-more next h e = g ∙ ap (λ (ys : List ℕ). all_came ys k) (drop-cons xs i 0 h) ∙ rw (add-one i, e)

  pub came-all : length xs ≤ i → k ≡ goal
  unfolding all_came
  came-all h = sym (g ∙ ap (λ (ys : List ℕ). all_came ys k) (drop_of_length-le xs h))
