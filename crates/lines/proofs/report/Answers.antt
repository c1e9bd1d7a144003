-- `lines::report` meets its contract. Assumes nothing.
use Rattle.std.specs.Prelude.{if◌then◌else◌}
use mathlib.Core.Path.{◌≡◌}
use mathlib.Core.Bool.{Bool}
use mathlib.Core.List.{List, [], ◌∷◌}
use Prim.Native.Nat.{ℕ, ◌+◌, ◌≤◌}
use native.Mathlib.Omega.{arith}
use borrow.Author.Tests.{eq-eqb, ne_eqb}
use Rattle.text.specs.Pieces.{Written}
use Rattle.text.proofs.Following.{nothing}
use Rattle.lines.specs.Lines as lines
use Rattle.lines.proofs.report.Goals as goal

module _ (answer : ℕ) (complete : Bool) {before after : List ℕ} {at end : ℕ} where
  told : answer ≡ 0 → Written before at (0x20 ∷ (if complete then 0x31 else 0x30) ∷ []) after end
      → (end ≤ at + 2) × Written before at (lines.report answer complete) after end
  told e w = (omega (arith, w.ends), rw (eq-eqb answer 0 e) w)

pub returns-then-answer-ne0 : goal.returns-then-answer-ne0
returns-then-answer-ne0 c = (omega arith, rw (ne_eqb _ 0 c.if-answer-ne0.true) (nothing _ _))

pub returns-then-complete : goal.returns-then-complete
returns-then-complete c =
    let a = c.args in
    told a.answer a.complete c.if-answer-ne0.false
    (rw c.if-complete.true c.word.ensures)

pub returns : goal.returns
returns c =
    let a = c.args in
    told a.answer a.complete c.if-answer-ne0.false
    (rw c.if-complete.false c.word-2.ensures)
