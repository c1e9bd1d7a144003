-- `printout::image_text` meets its contract. Assumes nothing.
use borrow.Author.Rules.{rules}
use Rattle.text.proofs.Following.{behind, nothing}
use Rattle.printout.proofs.image_text.Goals as goal

pub returns-in_default : goal.returns-in_default
returns-in_default c = (search rules, rw c.in_default.is (nothing _ _))

pub returns : goal.returns
returns c =
    (search rules, rw c.in-Some.is (behind c.two_numbers-size.ensures.1 c.two_numbers.ensures.1))
