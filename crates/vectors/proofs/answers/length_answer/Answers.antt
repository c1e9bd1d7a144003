-- `vectors::answers::length_answer` meets its contract. Assumes nothing.
use mathlib.Core.Path.{sym, ◌∙◌}
use borrow.Author.Rules.{rules}
use borrow.Author.Tests.{eq-eqb, ne_eqb}
use Rattle.text.proofs.Following.{behind}
use Rattle.vectors.specs.Answers.{length_text}
use Rattle.vectors.proofs.answers.length_answer.Goals as goal

pub returns-then-q-ne8 : goal.returns-then-q-ne8
returns-then-q-ne8 c = rw (ne_eqb _ _ c.if-q-ne8.true) c.refusal.ensures

pub returns-then-not-good_length : goal.returns-then-not-good_length
unfolding length_text
returns-then-not-good_length c = (
  search rules,
  rw (eq-eqb _ _ c.if-q-ne8.false, ← c.u64_at-bits.ensures, sym c.good_length.ensures ∙ c.if-not-good_length.true)
      c.word.ensures,
)

pub returns : goal.returns
unfolding length_text
returns c = (
  search rules,
  rw (eq-eqb _ _ c.if-q-ne8.false, ← c.u64_at-bits.ensures, sym c.good_length.ensures ∙ c.if-not-good_length.false)
      (rw (c.need.ensures, c.rest.ensures) at
      (behind c.with_number-second.ensures.1 c.number.ensures.1)),
)
