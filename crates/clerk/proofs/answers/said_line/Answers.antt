-- `clerk::answers::said_line` meets its contract. Assumes nothing.
use mathlib.Core.Path.{◌≡◌}
use native.Mathlib.Omega.{arith}
use borrow.Author.Rules.{rules}
use lib.ListN.{length}
use Rattle.text.proofs.Following.{behind}
use Rattle.clerk.proofs.Saying.{nothing-told, said-told}
use Rattle.clerk.proofs.answers.said_line.Goals as goal

pub returns-then-n-eq0 : goal.returns-then-n-eq0
returns-then-n-eq0 c = (omega arith, nothing-told _ c.args.s c.if-n-eq0.true)

pub slice_bounds-spaced_all-end : goal.slice_bounds-spaced_all-end
slice_bounds-spaced_all-end c =
    let size : length c.args.s.numbers ≡ 6 = search rules in
    omega (arith, size)

pub returns : goal.returns
returns c =
    let a = c.args in
    let size : length a.s.numbers ≡ 6 = search rules in
    let line = behind (behind c.word-first.ensures c.spaced_all-last.ensures.1) c.line_end.ensures.1 in
    (search rules, said-told _ a.s c.if-n-eq0.false size line)
