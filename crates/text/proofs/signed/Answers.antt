-- `text::signed` meets its contract. Assumes nothing.
use borrow.Author.Rules.{rules}
use Rattle.text.specs.Pieces.{spaced_signed}
use Rattle.text.proofs.Following.{behind}
use Rattle.text.proofs.signed.Goals as goal

pub returns-then-negative : goal.returns-then-negative
unfolding spaced_signed
returns-then-negative c =
    let w = behind c.word-sign.ensures c.decimal.ensures.1 in
    (search rules, rw c.if-negative.true w)

pub returns : goal.returns
unfolding spaced_signed
returns c = (search rules, rw c.if-negative.false c.number.ensures.1)
