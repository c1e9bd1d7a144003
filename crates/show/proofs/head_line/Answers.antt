-- `show::head_line` meets its contract. Assumes nothing.
use borrow.Author.Rules.{rules}
use Rattle.text.proofs.Following.{behind}
use Rattle.show.proofs.head_line.Goals as goal

pub returns : goal.returns
returns c =
    let second = behind c.word-letter.ensures c.number-second.ensures.1 in
    let line = behind (behind second c.number-last.ensures.1) c.line_end.ensures.1 in
    (search rules, rw (c.crc.ensures, c.crc-2.ensures) at line)
