-- `chase::calls::hunt` meets its contract. Assumes nothing.
use native.Mathlib.Omega.{arith}
use borrow.Author.Rules.{rules}
use Rattle.chase.proofs.Hunting.{hunt-done, hunt-told}
use Rattle.chase.proofs.calls.hunt.Goals as goal

pub returns : goal.returns
returns c =
    let a = c.args in
    let e = c.hunt-r.ensures in
    let line = c.check_line-end.ensures in
    record {
      buffer_after = hunt-done a.x a.h _ _ e;
      end_bound = (line.0, hunt-told a.x a.h _ _ e line.1 (omega arith) (omega arith) (search rules));
    }
