-- `text::numbers` meets its contract. Assumes nothing.
use borrow.Author.Rules.{rules}
use Rattle.text.proofs.Following.{behind}
use Rattle.text.proofs.numbers.Goals as goal

pub returns : goal.returns
returns c = (search rules, search (rules, behind))
