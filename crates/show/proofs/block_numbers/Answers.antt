-- `show::block_numbers` meets its contract. What is written so far, and the numbers in the rest of the table, is the whole. Assumes nothing.
use native.Mathlib.Omega.{arith}
use borrow.Author.Rules.{rules}
use Rattle.show.proofs.Showing.{numbering-none, numbering-hit, numbering-miss, numbering-all, numbering-few, numbering-room}
use Rattle.show.proofs.block_numbers.Goals as goal
use Rattle.show.proofs.block_numbers.Goals.{then-o-owner, else-o-owner}

pub loop-i-init : goal.loop-i-init
loop-i-init c = numbering-none _ _ _ _

pub number-end-requires : goal.number-end-requires
number-end-requires c = omega (arith, numbering-room c.loop-i.invariant (omega arith) c.if-o-owner.true)

pub loop-i-preserved : goal.loop-i-preserved
loop-i-preserved c =
    let m = c.loop-i.invariant in
    elim c.if-o-owner.branch [
      | then-o-owner w ↦ let n = w.number-end.ensures in rw (w.out-is, w.end-is) (numbering-hit m (omega arith) w.if-o-owner.true n.0 (search rules) n.1)
      | else-o-owner w ↦ rw (w.out-is, w.end-is) (numbering-miss m (omega arith) w.if-o-owner.false)
    ]

pub returns : goal.returns
returns c = (numbering-few c.loop-i.invariant, numbering-all c.loop-i.invariant (omega arith))
