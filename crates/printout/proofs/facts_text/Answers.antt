-- `printout::facts_text` meets its contract. Assumes nothing.
use borrow.Author.Rules.{rules}
use Rattle.text.proofs.Following.{behind}
use Rattle.printout.proofs.facts_text.Goals as goal

pub returns : goal.returns
returns c =
    (search rules, behind (behind c.two_numbers-first.ensures.1 c.two_numbers-second.ensures.1) c.two_numbers.ensures.1)
