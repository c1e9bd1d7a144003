-- `lines::let_go_line` meets its contract. Assumes nothing.
use borrow.Author.Rules.{rules}
use Rattle.text.proofs.Following.{behind}
use Rattle.lines.proofs.let_go_line.Goals as goal

pub returns : goal.returns
returns c =
    let head = c.with_number-last.ensures.1 in
    let told = c.report-end.ensures.1 in
    (search rules, behind (behind head told) c.line_end.ensures.1)
