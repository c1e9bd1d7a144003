-- `vectors::answers::numbered_answer` meets its contract. Assumes nothing.
use borrow.Author.Tests.{lt-ltb, le-ltb}
use Rattle.vectors.specs.Answers.{numbered_text}
use Rattle.vectors.proofs.answers.numbered_answer.Goals as goal

pub returns-then-q-lt2 : goal.returns-then-q-lt2
unfolding numbered_text
returns-then-q-lt2 c = rw (lt-ltb _ _ c.if-q-lt2.true) c.refusal.ensures

pub returns : goal.returns
unfolding numbered_text
returns c = rw (le-ltb _ _ c.if-q-lt2.false) c.record_answer.ensures
