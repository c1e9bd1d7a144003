use native.Mathlib.Omega.{arith}
use Rattle.hunter.proofs.Filling.{fill-short, fill-whole}
use Rattle.hunter.proofs.fill.Goals as goal

pub returns-then-left-need : goal.returns-then-left-need
returns-then-left-need c =
    let a = c.args in
    rw c.none_found.ensures (fill-short a.h a.portion.now a.at a.buffer.now c.requires _ (omega arith) c.copy.ensures)

pub returns : goal.returns
returns c =
    let a = c.args in
    let s = c.requires in
    fill-whole a.h a.portion.now a.at a.buffer.now s _ _ _ (omega arith) c.copy-2.ensures c.copy-3.ensures c.copy-4.ensures
