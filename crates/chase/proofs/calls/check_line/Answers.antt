-- `chase::calls::check_line` meets its contract. Assumes nothing.
use borrow.Author.Rules.{rules}
use Rattle.text.proofs.Following.{behind}
use Rattle.chase.proofs.calls.check_line.Goals as goal

pub returns : goal.returns
returns c =
    let check = rw c.crc.ensures at c.number-last.ensures.1 in
    (search rules, behind (behind c.with_three-third.ensures.1 check) c.line_end.ensures.1)
