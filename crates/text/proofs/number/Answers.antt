-- `text::number` meets its contract. Assumes nothing.
use borrow.Author.Rules.{rules}
use Rattle.text.specs.Pieces.{spaced}
use Rattle.text.proofs.Following.{behind}
use Rattle.text.proofs.number.Goals as goal

pub returns : goal.returns
unfolding spaced
returns c =
    let begun = c.word-begun.ensures in
    (search rules, behind begun c.decimal.ensures.1)
