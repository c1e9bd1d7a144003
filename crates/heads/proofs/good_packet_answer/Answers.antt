-- `heads::good_packet_answer` meets its contract. Assumes nothing.
use borrow.Author.Rules.{rules}
use Rattle.text.proofs.Following.{behind}
use Rattle.heads.specs.Heads.{packet_text}
use Rattle.heads.proofs.good_packet_answer.Goals as goal

pub returns : goal.returns
unfolding packet_text
returns c = (
  search rules,
  rw (c.kind.ensures, c.size.ensures) at
      (behind (behind c.with_number-first.ensures.1 c.kind_answer-second.ensures.1) c.numbers.ensures.1),
)
