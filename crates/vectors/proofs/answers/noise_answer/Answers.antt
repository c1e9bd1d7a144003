-- `vectors::answers::noise_answer` meets its contract. Assumes nothing.
use borrow.Author.Rules.{rules}
use borrow.Author.Tests.{eq-eqb, ne_eqb, lt-ltb, le-ltb}
use Rattle.text.proofs.Following.{behind}
use Rattle.vectors.specs.Answers.{noise_text}
use Rattle.vectors.proofs.answers.noise_answer.Goals as goal

pub returns-then-q-ne4 : goal.returns-then-q-ne4
returns-then-q-ne4 c = rw (ne_eqb _ _ c.if-q-ne4.true) c.refusal.ensures

pub returns-then-number-gt1024 : goal.returns-then-number-gt1024
unfolding noise_text
returns-then-number-gt1024 c =
    rw (eq-eqb _ _ c.if-q-ne4.false, ← c.u16_at-number.ensures, lt-ltb _ _ c.if-number-gt1024.true) c.refusal-then-number-gt1024.ensures

pub returns-then-number-eq0 : goal.returns-then-number-eq0
unfolding noise_text
returns-then-number-eq0 c = (
  search rules,
  rw (eq-eqb _ _ c.if-q-ne4.false, ← c.u16_at-number.ensures, le-ltb _ _ c.if-number-gt1024.false, eq-eqb _ _ c.if-number-eq0.true)
      c.word.ensures,
)

pub returns : goal.returns
unfolding noise_text
returns c = (
  search rules,
  rw (
    eq-eqb _ _ c.if-q-ne4.false,
    ← c.u16_at-number.ensures,
    ← c.u16_at-from.ensures,
    le-ltb _ _ c.if-number-gt1024.false,
    ne_eqb _ _ c.if-number-eq0.false,
  )
      (behind c.word-begun.ensures c.noise_octets.ensures.1),
)
