-- `lines::events` meets its contract. What is written so far, and the lines of the events that are left, is the whole. Assumes nothing.
use native.Mathlib.Omega.{arith}
use borrow.Author.Rules.{rules}
use Rattle.lines.proofs.Telling.{lining-none, lining-more, lining-all}
use Rattle.lines.proofs.events.Goals as goal

pub loop-i-init : goal.loop-i-init
loop-i-init c = lining-none _ _ _ _

pub loop-i-preserved : goal.loop-i-preserved
loop-i-preserved c =
    let e = c.event-end in
    lining-more c.loop-i.invariant (omega arith) e.ensures.upper_bound (search rules) e.ensures.written

pub returns : goal.returns
returns c = record {
  upper_bound = search rules;
  written = lining-all c.loop-i.invariant (omega arith);
}
