-- `drive::calls::show_lent` meets its contract. Assumes nothing.
use mathlib.Core.Path.{refl}
use native.Mathlib.Nat.{sub-zero}
use Rattle.drive.proofs.calls.show_lent.Goals as goal

pub returns : goal.returns
returns c =
    let w = c.args.w in
    record {
      by_index = (λ desks store. refl);
      end_bound = rw (sub-zero w.desks, sub-zero w.store) at c.show.ensures;
    }
