-- `drive::calls::set_up` meets its contract. Assumes nothing.
use native.Mathlib.Omega.{arith}
use Rattle.drive.proofs.Outcomes.{set-up-done, set-up-answer}
use Rattle.drive.proofs.calls.set_up.Goals as goal

pub returns : goal.returns
returns c =
    let a = c.args in
    let e = c.set_up-a.ensures in
    let line = c.answer_line.ensures in
    record {
      store_after = set-up-done a.x a.w _ _ _ e;
      end_bound = (omega (arith, line.0), rw (set-up-answer a.x a.w _ _ _ e) at line.1);
    }
