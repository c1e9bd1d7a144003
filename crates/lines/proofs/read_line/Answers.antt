-- `lines::read_line` meets its contract. Assumes nothing.
use borrow.Author.Rules.{rules}
use Rattle.text.proofs.Following.{behind}
use Rattle.lines.proofs.Telling.{no-octets, no_length, some-octets}
use Rattle.lines.proofs.read_line.Goals as goal

pub returns-then-answer-ne0 : goal.returns-then-answer-ne0
returns-then-answer-ne0 c =
    let line = behind c.with_number-last.ensures.1 c.line_end.ensures.1 in
    (search rules, no-octets _ c.args.read.now c.if-answer-ne0.true line)

pub returns-then-read-eq0 : goal.returns-then-read-eq0
returns-then-read-eq0 c =
    let line = behind c.with_number-last.ensures.1 c.line_end-then-read-eq0.ensures.1 in
    (search rules, no_length _ c.args.read.now c.if-read-eq0.true line)

pub returns : goal.returns
returns c =
    let head = behind c.with_number-last.ensures.1 (behind c.word-space.ensures c.hex_octets-end.ensures.1) in
    (search rules, some-octets _ c.args.read.now c.if-answer-ne0.false c.if-read-eq0.false (behind head c.line_end-2.ensures.1))
