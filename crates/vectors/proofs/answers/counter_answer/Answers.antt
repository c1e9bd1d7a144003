-- `vectors::answers::counter_answer` meets its contract: a number of three octets is always a counter. Assumes nothing.
use mathlib.Core.Path.{sym, ◌∙◌}
use borrow.Author.Rules.{rules}
use borrow.Author.Tests.{eq-eqb, ne_eqb}
use Rattle.vectors.specs.Answers.{counter_text}
use Rattle.vectors.proofs.Checks.{good-counter, as_number}
use Rattle.vectors.proofs.answers.counter_answer.Goals as goal

pub returns-then-q-ne6 : goal.returns-then-q-ne6
returns-then-q-ne6 c = rw (ne_eqb _ _ c.if-q-ne6.true) c.refusal.ensures

pub returns : goal.returns
unfolding counter_text
returns c = (
  search rules,
  let last = good-counter _ c.u24_at.ensures.1 (sym c.checked.ensures ∙ c.in-Some.is) in
      let next = good-counter _ c.u24_at-2.ensures.1 (sym c.checked-2.ensures ∙ c.in-Some-checked.is) in
      rw (
        eq-eqb _ _ c.if-q-ne6.false,
        ← c.u24_at.ensures.0,
        ← c.u24_at-2.ensures.0,
        ← last,
        ← next,
        ← c.follows.ensures,
        ← as_number,
      )
      c.with_number.ensures.1,
)
