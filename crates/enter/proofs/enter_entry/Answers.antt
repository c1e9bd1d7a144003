-- `enter::enter_entry` meets its contract: what was settled is what comes out. Assumes nothing.
use Rattle.refusals.proofs.Passing.{passed_on}
use Rattle.enter.proofs.Settling.{settled-refused, settled-goes}
use Rattle.enter.proofs.enter_entry.Goals as goal

pub returns-in_err-at : goal.returns-in_err-at
returns-in_err-at c =
    let a = c.args in
    rw (passed_on _ c.from_residual.ensures.1) (settled-refused a.buffer.now a.used a.e c.settle.ensures c.in_err-at.was)

pub enter_at-requires : goal.enter_at-requires
enter_at-requires c =
    let a = c.args in
    settled-goes a.buffer.now a.used a.e c.settle.ensures c.in_ok-at.was
