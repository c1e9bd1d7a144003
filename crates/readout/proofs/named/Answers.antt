-- `readout::named` meets its contract. Assumes nothing.
use borrow.Author.Rules.{rules}
use Rattle.text.proofs.Following.{behind}
use Rattle.readout.proofs.named.Goals as goal

pub returns : goal.returns
returns c = (search rules, behind c.word-word.ensures c.hex_octets.ensures.1)
