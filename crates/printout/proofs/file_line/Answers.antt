-- `printout::file_line` meets its contract. Assumes nothing.
use borrow.Author.Rules.{rules}
use Rattle.text.proofs.Following.{behind}
use Rattle.printout.proofs.file_line.Goals as goal

pub returns : goal.returns
returns c = (search rules, behind (behind c.facts_text-first.ensures.1 c.image_text-last.ensures.1) c.line_end.ensures.1)
