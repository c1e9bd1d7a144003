-- `printout::file_lines` meets its contract. Assumes nothing.
use native.Mathlib.Omega.{arith}
use borrow.Author.Rules.{rules}
use Rattle.printout.proofs.Lines.{filing-none, filing-more, filing-all}
use Rattle.printout.proofs.file_lines.Goals as goal

pub loop-i-init : goal.loop-i-init
loop-i-init c = filing-none _ _ _

pub loop-i-preserved : goal.loop-i-preserved
loop-i-preserved c =
    filing-more c.requires.0 c.loop-i.invariant (omega arith) c.entry_at-e.ensures (search rules) (search rules) c.file_line-end.ensures.1 c.taken-j.ensures.0 c.taken-j.ensures.1

pub returns : goal.returns
returns c = (search rules, filing-all c.requires.0 c.loop-i.invariant (omega arith))
