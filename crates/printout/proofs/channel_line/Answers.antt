-- `printout::channel_line` meets its contract. Assumes nothing.
use borrow.Author.Rules.{rules}
use Rattle.text.proofs.Following.{behind}
use Rattle.printout.proofs.channel_line.Goals as goal

pub returns : goal.returns
returns c = (search rules, behind c.two_numbers-last.ensures.1 c.line_end.ensures.1)
