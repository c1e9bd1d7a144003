-- `receive::tell` meets its contract. Assumes nothing.
use Rattle.text.proofs.Following.{behind}
use Rattle.receive.proofs.tell.Goals as goal

pub returns : goal.returns
returns c =
    let numbers = behind c.word-letter.ensures c.numbers-last.ensures.1 in
    (behind (behind numbers c.line_end-head.ensures.1) c.events-end.ensures.written).holds
