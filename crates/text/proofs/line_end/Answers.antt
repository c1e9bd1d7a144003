-- `text::line_end` meets its contract. Assumes nothing.
use borrow.Author.Rules.{rules}
use Rattle.text.proofs.Following.{octet}
use Rattle.text.proofs.line_end.Goals as goal

pub returns : goal.returns
returns c = (search rules, octet _ _ _)
