-- `lines::end_line` meets its contract. Assumes nothing.
use borrow.Author.Rules.{rules}
use Rattle.text.proofs.Following.{behind}
use Rattle.lines.proofs.end_line.Goals as goal

pub returns : goal.returns
returns c = (search rules, behind (behind c.with_number-first.ensures.1 c.number-last.ensures.1) c.line_end.ensures.1)
