-- `heads::frame_answer` meets its contract. Assumes nothing.
use borrow.Author.Rules.{rules}
use Rattle.text.proofs.Following.{behind}
use Rattle.heads.specs.Heads.{frame_text}
use Rattle.heads.proofs.frame_answer.Goals as goal

pub returns : goal.returns
unfolding frame_text
returns c = (
  search rules,
  behind (behind c.with_three-third.ensures.1 c.number-end.ensures.1) c.pointer_answer.ensures.1,
)
