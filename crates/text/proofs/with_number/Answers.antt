-- `text::with_number` meets its contract. Assumes nothing.
use borrow.Author.Rules.{rules}
use Rattle.text.proofs.Following.{behind}
use Rattle.text.proofs.with_number.Goals as goal

pub returns : goal.returns
returns c = (search rules, behind c.word-end.ensures c.number.ensures.1)
