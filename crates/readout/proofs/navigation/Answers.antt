-- `readout::navigation` meets its contract. Assumes nothing.
use native.Mathlib.Omega.{arith}
use borrow.Author.Rules.{rules}
use Rattle.text.proofs.Following.{nothing, behind}
use Rattle.readout.specs.Readout.{navigation_text}
use Rattle.readout.proofs.Signs.{same-field}
use Rattle.readout.proofs.navigation.Goals as goal

pub returns-in_default : goal.returns-in_default
unfolding navigation_text
returns-in_default c = (search rules, rw c.in_default.is (nothing _ _))

pub returns : goal.returns
unfolding navigation_text
returns c = (
  search rules,
  let x = c.in-Some.x in
      let first = behind c.named-first.ensures.1 c.signed_pair-third.ensures.1 in
      let pairs =
      rw (
        same-field x.cfac (omega arith),
        same-field x.lfac (omega arith),
        same-field x.coff (omega arith),
        same-field x.loff (omega arith),
      )
      at (behind first c.signed_pair.ensures.1) in
      rw c.in-Some.is pairs,
)
