-- `vectors::answers::answer` meets its contract. Assumes nothing.
use borrow.Author.Tests.{lt-ltb, le-ltb}
use Rattle.vectors.specs.Answers.{answer_of}
use Rattle.vectors.proofs.answers.answer.Goals as goal

pub returns-then-held-line : goal.returns-then-held-line
unfolding answer_of
returns-then-held-line c = rw (lt-ltb _ _ c.if-held-line.true) c.refusal.ensures

pub returns-in-Some : goal.returns-in-Some
unfolding answer_of
returns-in-Some c =
    rw (le-ltb _ _ c.if-held-line.false, ← (rw c.in-Some.is at c.question.ensures.asked_after))
    c.answer_to.ensures

pub returns-in-None : goal.returns-in-None
unfolding answer_of
returns-in-None c =
    rw (le-ltb _ _ c.if-held-line.false, ← (rw c.in-None.is at c.question.ensures.asked_after))
    c.refusal-in-None.ensures
