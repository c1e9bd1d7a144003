-- `printout::end_line` meets its contract. Assumes nothing.
use borrow.Author.Rules.{rules}
use Rattle.text.proofs.Following.{behind}
use Rattle.printout.proofs.end_line.Goals as goal

pub returns : goal.returns
returns c = (search rules, behind c.with_three-last.ensures.1 c.line_end.ensures.1)
