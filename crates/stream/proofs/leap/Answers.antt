use mathlib.Core.Path.{sym, ◌∙◌}
use native.Mathlib.Omega.{arith}
use Rattle.stream.proofs.Stretches.{leaps-found, leaps-nowhere}
use Rattle.stream.proofs.leap.Goals as goal

pub returns-in-At : goal.returns-in-At
returns-in-At c =
    let a = c.args in
    leaps-found a.portion.now a.k a.from a.v (omega arith) (omega arith) _ _ _ c.scan-2.ensures c.in-At.is

pub returns-in-Nowhere : goal.returns-in-Nowhere
returns-in-Nowhere c =
    let a = c.args in
    leaps-nowhere a.portion.now a.k a.from a.v (omega arith) (omega arith) _ _ _
    (λ i. (c.type_inv.portion i).fits)
    (sym c.is_quiet.ensures ∙ c.if-not-is_quiet.false) c.scan-2.ensures
    c.in-Nowhere.is c.u32_at.ensures
