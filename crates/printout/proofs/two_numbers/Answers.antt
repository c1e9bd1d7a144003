-- `printout::two_numbers` meets its contract. Assumes nothing.
use borrow.Author.Rules.{rules}
use Rattle.text.proofs.Following.{behind}
use Rattle.printout.proofs.two_numbers.Goals as goal

pub returns : goal.returns
returns c = (search rules, behind c.with_number-end.ensures.1 c.with_number.ensures.1)
