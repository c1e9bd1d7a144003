-- A table by a rule: a test that runs over it once, and what it then has at each place. Assumes nothing.
use Rattle.std.specs.Prelude.{if◌then◌else◌}
use mathlib.Core.Path.{◌≡◌, refl, sym, ap, ap₂, ◌∙◌}
use mathlib.Core.List.{List, [], ◌∷◌}
use Prim.Native.Nat.{ℕ, zero, suc, ◌+◌, ◌<◌}
use native.Mathlib.Nat.{add-zero, zero-add, le_of_suc-le-suc, not-suc-le-zero}
use native.Mathlib.Omega.{arith}
use borrow.Author.Tests.{eqb-true}
use lib.Dec.{eqb}
use lib.ListN.{length, get_or}
use Rattle.octets.specs.Table.{entries_from, table_of}
use Rattle.octets.proofs.Lists.{if-cases}

module _ (rule : ℕ → ℕ) where
  -- how many of some entries in a row, the first at place i, are what the rule gives, up to the first that is not
  unfoldable pub right : ℕ → List ℕ → ℕ
  right i [] = 0
  right i (x ∷ xs) = if eqb x (rule i) then suc (right (suc i) xs) else 0

  entries-right : (n i : ℕ) (xs : List ℕ) → length xs ≡ n → right i xs ≡ n → xs ≡ entries_from n i rule
  unfolding right entries_from
  entries-right zero i [] e t = refl
  entries-right zero i (x ∷ xs) e t = absurd (omega arith)
  entries-right (suc n) i [] e t = absurd (omega arith)
  entries-right (suc n) i (x ∷ xs) e t =
      if-cases (λ (m : ℕ). m ≡ suc n → x ∷ xs ≡ rule i ∷ entries_from n (suc i) rule) (eqb x (rule i))
      (λ q m. ap₂ (λ (y : ℕ) (ys : List ℕ). y ∷ ys) (eqb-true x (rule i) q) (entries-right n (suc i) xs (omega arith) (omega arith)))
      (λ q m. absurd (omega arith))
      t

  -- where the test comes to the end of the table, it is the rule's
  pub table-right : (n : ℕ) (xs : List ℕ) → length xs ≡ n → right 0 xs ≡ n → xs ≡ table_of n rule
  unfolding table_of
  table-right n xs e t = entries-right n 0 xs e t

  entries_at : (n i k : ℕ) → k < n → get_or (entries_from n i rule) k 0 ≡ rule (i + k)
  unfolding entries_from
  entries_at zero i k h = absurd (not-suc-le-zero h)
  entries_at (suc n) i zero h = sym (ap rule (add-zero i))
  entries_at (suc n) i (suc k) h = entries_at n (suc i) k (le_of_suc-le-suc h) ∙ ap rule (omega arith)

  pub table_at : (n k : ℕ) → k < n → get_or (table_of n rule) k 0 ≡ rule k
  unfolding table_of
  table_at n k h = entries_at n 0 k h ∙ ap rule (zero-add k)
