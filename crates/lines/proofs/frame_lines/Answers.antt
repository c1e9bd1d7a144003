-- `lines::frame_lines` meets its contract. Assumes nothing.
use borrow.Author.Rules.{rules}
use Rattle.text.proofs.Following.{behind}
use Rattle.lines.proofs.frame_lines.Goals as goal

pub returns : goal.returns
returns c =
    let count = behind c.with_number-first.ensures.1 c.number-last.ensures.1 in
    (search rules, behind (behind count c.line_end-head.ensures.1) c.events.ensures.written)
