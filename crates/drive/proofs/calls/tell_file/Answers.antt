-- `drive::calls::tell_file` meets its contract. Assumes nothing.
use mathlib.Core.Path.{refl, ◌∙◌}
use Rattle.drive.proofs.Outcomes.{told-given}
use Rattle.drive.proofs.calls.tell_file.Goals as goal

pub returns : goal.returns
returns c =
    let a = c.args in
    let line = c.told_line.ensures in
    let told = c.tell_file-told.ensures in
    record {
      by_index = (λ desks store. refl);
      end_bound = (line.0, λ desks. rw (told ∙ told-given a.x a.w desks a.store.now) at line.1);
    }
