-- `vectors::answers::frame_answer` meets its contract. Assumes nothing.
use borrow.Author.Tests.{eq-eqb, ne_eqb}
use Rattle.vectors.proofs.answers.frame_answer.Goals as goal

pub returns-then-q-ne8 : goal.returns-then-q-ne8
returns-then-q-ne8 c = rw (ne_eqb _ _ c.if-q-ne8.true) c.refusal.ensures

pub returns : goal.returns
returns c =
    rw (eq-eqb _ _ c.if-q-ne8.false, ← c.read.ensures.value) c.frame_answer.ensures
