-- `records::next_place` meets its contract. Assumes nothing.
use mathlib.Core.Path.{sym, ◌∙◌}
use native.Mathlib.Omega.{arith}
use Rattle.records.proofs.Cuts.{uncut-within, after-cut, after-uncut}
use Rattle.records.proofs.next_place.Goals as goal

pub returns-then-is_cut : goal.returns-then-is_cut
returns-then-is_cut c = (sym (after-cut _ _ (sym c.is_cut.ensures ∙ c.if-is_cut.true)), omega arith, omega arith)

pub overflow_add-result : goal.overflow_add-result
overflow_add-result c =
    let (some, within) = uncut-within _ _ (sym c.is_cut.ensures ∙ c.if-is_cut.false) in
    omega arith

pub returns : goal.returns
returns c =
    let whole = sym c.is_cut.ensures ∙ c.if-is_cut.false in
    let (some, within) = uncut-within _ _ whole in
    (sym (after-uncut _ _ whole), omega arith, omega arith)
