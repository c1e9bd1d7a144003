-- `vectors::answers::crc_answer` meets its contract. Assumes nothing.
use borrow.Author.Rules.{rules}
use Rattle.text.proofs.Following.{behind}
use Rattle.vectors.specs.Answers.{crc_text}
use Rattle.vectors.proofs.answers.crc_answer.Goals as goal

pub returns : goal.returns
unfolding crc_text
returns c = (
  search rules,
  rw c.crc.ensures at (behind c.word-letter.ensures c.hex.ensures.1),
)
