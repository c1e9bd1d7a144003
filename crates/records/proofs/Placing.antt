-- Where the fields of a type are read: at its one record, or nowhere. Assumes nothing.
use Rattle.std.specs.Prelude.{if◌then◌else◌, Option, Some, None}
use mathlib.Core.Path.{◌≡◌, refl, sym, ap, ◌∙◌}
use mathlib.Core.Bool.{Bool, true, false}
use mathlib.Core.Logic.{⊎_elim}
use mathlib.Core.List.Memᴰ
use mathlib.Core.List.{List, [], ◌∷◌, Memᴰ}
use Prim.Native.Nat.{ℕ, ◌+◌, ◌≤◌}
use native.Mathlib.Omega.{arith}
use borrow.Author.Tests.{eq-eqb, eqb-true}
use lib.Dec.{eqb}
use Rattle.octets.proofs.Lists.{if-cases}
use Rattle.records.specs.Records.{place_of}
use Rattle.records.specs.Together.{how_many}
use Rattle.records.specs.declared.Record.{Record}

abbrev of-kind : ℕ → Record → Bool
of-kind kind r = eqb r.kind kind

-- a record of a kind is one of that kind
counted : (kind : ℕ) (r : Record) (rs : List Record) → Memᴰ r rs → r.kind ≡ kind → 1 ≤ how_many (of-kind kind) rs
unfolding how_many
counted kind r [] m e = absurd (Memᴰ.not-nil m)
counted kind r (x ∷ rs) m e =
    ⊎_elim
    (λ (q : r ≡ x).
    let same : eqb x.kind kind ≡ true = eq-eqb x.kind kind (sym (ap (λ (y : Record). y.kind) q) ∙ e) in
    rw same (omega arith))
    (λ n. omega (arith, counted kind r rs n e))
    (Memᴰ.cases_cons m)

-- the first record of a kind is the only one
pub place-of-one : (kind : ℕ) (r : Record) (rs : List Record) → how_many (of-kind kind) rs ≤ 1 → Memᴰ r rs → r.kind ≡ kind
    → place_of kind rs ≡ Some r.place
unfolding how_many place_of
place-of-one kind r [] few m e = absurd (Memᴰ.not-nil m)
place-of-one kind r (x ∷ rs) few m e =
    ⊎_elim
    (λ (q : r ≡ x).
    let same : eqb x.kind kind ≡ true = eq-eqb x.kind kind (sym (ap (λ (y : Record). y.kind) q) ∙ e) in
    rw same (sym (ap (λ (y : Record). Some y.place) q)))
    (λ n. by (eqb x.kind kind) few (counted kind r rs n e) (λ l. place-of-one kind r rs l n e))
    (Memᴰ.cases_cons m)
  where
    by : (b : Bool) → (if b then 1 else 0) + how_many (of-kind kind) rs ≤ 1 → 1 ≤ how_many (of-kind kind) rs
        → (how_many (of-kind kind) rs ≤ 1 → place_of kind rs ≡ Some r.place) → (if b then Some x.place else place_of kind rs) ≡ Some r.place
    by true l some rest = absurd (omega arith)
    by false l some rest = rest (omega arith)

pub place-of-none : (kind : ℕ) (rs : List Record) → ((r : Record) → Memᴰ r rs → r.kind ≡ kind → ⊥) → place_of kind rs ≡ None
unfolding place_of
place-of-none kind [] none = refl
place-of-none kind (x ∷ rs) none =
    if-cases (λ (p : Option ℕ). p ≡ None) (eqb x.kind kind)
    (λ e. absurd (none x (Memᴰ.head refl) (eqb-true x.kind kind e)))
    (λ e. place-of-none kind rs (λ r m. none r (Memᴰ.tail m)))
