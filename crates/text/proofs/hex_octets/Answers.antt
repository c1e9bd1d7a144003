-- `text::hex_octets` meets its contract. What is written so far, and the digits of the octets that are left, is the whole. Assumes nothing.
use native.Mathlib.Omega.{arith}
use borrow.Author.Rules.{rules}
use Rattle.text.proofs.Following.{spelling-none, spelling-more, spelling-all}
use Rattle.text.proofs.hex_octets.Goals as goal

pub loop-x-init : goal.loop-x-init
loop-x-init c = spelling-none _ _ _

pub loop-x-preserved : goal.loop-x-preserved
loop-x-preserved c =
    let loop = c.loop-x in
    spelling-more loop.invariant _ _ (omega arith) (omega (arith, c.type_inv.s loop.x-index)) c.digit.ensures c.digit-in-loop-x.ensures

pub returns : goal.returns
returns c = (search rules, spelling-all c.loop-x.invariant (omega arith))
