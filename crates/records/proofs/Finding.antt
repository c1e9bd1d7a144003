-- A record sought by its type and by its number, at the record where the walk stands. Assumes nothing.
use Rattle.std.specs.Prelude.{Some, Ok}
use mathlib.Core.Path.{◌≡◌, refl}
use mathlib.Core.List.{List, ◌∷◌}
use Prim.Native.Nat.{ℕ, zero, suc, ◌-◌}
use native.Mathlib.Omega.{arith}
use borrow.Author.Tests.{eq-eqb, ne_eqb}
use Rattle.records.specs.Records.{nth, place_of}
use Rattle.records.specs.declared.Record.{Record}

module _ (r : Record) (rs : List Record) where
  pub place_here : (kind : ℕ) → r.kind ≡ kind → place_of kind (r ∷ rs) ≡ Some r.place
  unfolding place_of
  place_here kind h = rw (eq-eqb r.kind kind h)

  pub place-later : (kind : ℕ) → (r.kind ≡ kind → ⊥) → place_of kind (r ∷ rs) ≡ place_of kind rs
  unfolding place_of
  place-later kind h = rw (ne_eqb r.kind kind h)

  pub nth_here : (n : ℕ) → n ≡ 0 → nth (r ∷ rs) n ≡ Ok r
  unfolding nth
  nth_here zero h = refl
  nth_here (suc n) h = absurd (omega arith)

  pub nth-later : (n : ℕ) → (n ≡ 0 → ⊥) → nth (r ∷ rs) n ≡ nth rs (n - 1)
  unfolding nth
  nth-later zero h = absurd (h refl)
  nth-later (suc n) h =
      let one : suc n - 1 ≡ n = omega arith in
      rw one
