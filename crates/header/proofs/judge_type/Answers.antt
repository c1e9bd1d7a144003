-- `header::judge_type` meets its contract. Assumes nothing.
use Rattle.std.specs.Prelude.{Bool, true, Some, ⊤}
use mathlib.Core.Path.{◌≡◌, sym, ◌∙◌}
use Prim.Native.Nat.{ℕ}
use borrow.Author.Tests.{eq-eqb, ne_eqb}
use Rattle.refusals.specs.Refusals.{refuse, verdict}
use Rattle.records.specs.Table.{fixed_types, length_of}
use Rattle.records.specs.Records.{type_says}
use Rattle.header.proofs.judge_type.Goals as goal

-- for a type whose records have length n
module _ (kind size : ℕ) (seen : Bool) {n : ℕ} (fixed : length_of fixed_types kind ≡ Some n) where
  wrong-length : (size ≡ n → ⊥) → refuse {A = ⊤} 24 ≡ verdict (type_says fixed_types kind size seen)
  wrong-length h = rw (fixed, ne_eqb _ _ h)

  twice : size ≡ n → seen ≡ true → refuse {A = ⊤} 25 ≡ verdict (type_says fixed_types kind size seen)
  twice h e = rw (fixed, eq-eqb _ _ h, e)

pub returns-then-size-n : goal.returns-then-size-n
returns-then-size-n c = wrong-length _ _ _ (sym c.type_length.ensures ∙ c.in-Some.is) c.if-size-n.true

pub returns-then-seen : goal.returns-then-seen
returns-then-seen c = twice _ _ _ (sym c.type_length.ensures ∙ c.in-Some.is) c.if-size-n.false c.if-seen.true

pub returns-in_default : goal.returns-in_default
returns-in_default c = rw (sym c.type_length.ensures ∙ c.in_default.is)

pub returns : goal.returns
returns c =
    rw (
      sym c.type_length.ensures ∙ c.in-Some.is,
      eq-eqb _ _ c.if-size-n.false,
      c.if-seen.false,
    )
