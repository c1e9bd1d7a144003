-- `hunt::end` meets its contract. Assumes nothing.
use Rattle.text.proofs.Following.{behind}
use Rattle.hunt.proofs.end.Goals as goal

pub returns : goal.returns
returns c = (behind c.with_three-third.ensures.1 c.line_end-last.ensures.1).holds
