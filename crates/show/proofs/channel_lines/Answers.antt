-- `show::channel_lines` meets its contract. What is written so far, and the lines of the channels that are left, is the whole. Assumes
-- nothing.
use native.Mathlib.Omega.{arith}
use borrow.Author.Rules.{rules}
use Rattle.octets.proofs.Lists.{unmap}
use Rattle.show.proofs.Showing.{channelling-none, channelling-line, channelling-all}
use Rattle.show.proofs.channel_lines.Goals as goal

pub loop-i-init : goal.loop-i-init
loop-i-init c = channelling-none _ _ _ _ _ (search (rules, unmap)) (search (rules, unmap))

pub loop-i-preserved : goal.loop-i-preserved
loop-i-preserved c =
    let line = c.channel_line-end.ensures in
    channelling-line c.loop-i.invariant (omega arith) line.0 (search rules) line.1

pub returns : goal.returns
returns c = (search rules, channelling-all c.loop-i.invariant (omega arith))
