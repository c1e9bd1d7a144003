-- `hunt::refusal` meets its contract. Assumes nothing.
use Rattle.text.proofs.Following.{behind}
use Rattle.hunt.proofs.refusal.Goals as goal

pub returns : goal.returns
returns c = (behind c.with_number-first.ensures.1 c.word-last.ensures).holds
