-- `crc::crc` meets its contract: it runs from all ones. Assumes nothing.
use borrow.Author.Rules.{rules}
use Rattle.crc.specs.Crc.{crc_of}
use Rattle.crc.proofs.crc.Goals as goal

pub returns : goal.returns
unfolding crc_of
returns c = search rules
