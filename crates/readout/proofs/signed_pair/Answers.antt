-- `readout::signed_pair` meets its contract. Assumes nothing.
use borrow.Author.Rules.{rules}
use Rattle.text.proofs.Following.{behind}
use mir.Facts.{to_z-of_z}
use Rattle.readout.proofs.signed_pair.Goals as goal

pub returns : goal.returns
returns c = (
  search rules,
  rw (to_z-of_z c.ranges.v, to_z-of_z c.ranges.w) at (behind c.signed-second.ensures.1 c.signed.ensures.1),
)
