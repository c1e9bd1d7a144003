-- `printout::channel_lines` meets its contract. Assumes nothing.
use native.Mathlib.Omega.{arith}
use borrow.Author.Rules.{rules}
use Rattle.printout.proofs.Lines.{listing_none, listing-more, listing-all}
use Rattle.printout.proofs.channel_lines.Goals as goal

pub loop-i-init : goal.loop-i-init
loop-i-init c = listing_none _ _ _ _

pub loop-i-preserved : goal.loop-i-preserved
loop-i-preserved c =
    listing-more c.requires.0 c.loop-i.invariant (omega arith) c.channel_entry-e.ensures (search rules) (search rules) c.channel_line-end.ensures.1

pub returns : goal.returns
returns c = (search rules, listing-all c.requires.0 c.loop-i.invariant (omega arith))
