-- `drive::calls::take_frame` meets its contract. Assumes nothing.
use Prim.Native.Nat.{◌≤◌}
use native.Mathlib.Omega.{arith}
use Rattle.drive.proofs.Outcomes.{frame-done, frame-given}
use Rattle.drive.proofs.calls.take_frame.Goals as goal

pub returns : goal.returns
returns c =
    let a = c.args in
    let f = c.frame_lent-f.ensures in
    let few : a.x.b ≤ 1200 = omega arith in
    record {
      store_after = frame-done a.x a.w _ _ _ few f.went_on;
      end_bound = (f.end_bound.0, rw (frame-given a.x a.w _ _ _ few) at f.end_bound.1);
    }
