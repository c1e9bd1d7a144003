-- `readout::signed` meets its contract. Assumes nothing.
use borrow.Author.Rules.{rules}
use Rattle.readout.specs.Readout.{signed_text}
use mir.Facts.{to_z-of_z}
use Rattle.readout.proofs.signed.Goals as goal

pub returns : goal.returns
unfolding signed_text
returns c = (
  search rules,
  rw (c.magnitude.ensures, to_z-of_z c.ranges.v) at c.signed.ensures.1,
)
