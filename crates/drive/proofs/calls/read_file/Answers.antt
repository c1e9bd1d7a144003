-- `drive::calls::read_file` meets its contract. Assumes nothing.
use mathlib.Core.Path.{refl}
use native.Mathlib.Omega.{arith}
use Rattle.drive.proofs.Outcomes.{read-given}
use Rattle.drive.proofs.calls.read_file.Goals as goal

pub returns : goal.returns
returns c =
    let a = c.args in
    let line = c.read_lent.ensures in
    record {
      by_index = (λ desks store. refl);
      end_bound = (line.0, λ desks. rw (read-given a.x a.w desks _ (omega arith)) at line.1);
    }
