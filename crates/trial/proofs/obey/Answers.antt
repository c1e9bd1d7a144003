-- `trial::obey` meets its contract: no more is lent than there is. Assumes nothing.
use mathlib.Core.Path.{ap}
use native.Mathlib.Omega.{arith}
use lib.ListN.{take}
use Rattle.script.specs.Memory.{Memory, memory}
use Rattle.drive.proofs.Lent.{lent-within}
use Rattle.trial.proofs.obey.Goals as goal

pub returns-clause-desks_in_bounds_2 : goal.returns-clause-desks_in_bounds_2
returns-clause-desks_in_bounds_2 c =
    let a = c.args in
    let pre = c.requires.desks_in_bounds in
    let e = c.carry_out-r.ensures.store_after in
    let within = lent-within a.x (take a.k a.payload.now) (memory a.w a.desks.now a.store.now) (pre.0, pre.1) in
    let desks = ap (λ (o : Memory). o.desks_lent) e in
    let store = ap (λ (o : Memory). o.store_lent) e in
    (omega (arith, desks, within.0), omega (arith, store, within.1))
