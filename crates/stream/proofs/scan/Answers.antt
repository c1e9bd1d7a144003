use mathlib.Core.Path.{sym, ◌∙◌}
use native.Mathlib.Omega.{arith}
use Rattle.stream.proofs.Seeking.{seek_found, seek-more, seek-end}
use Rattle.stream.proofs.scan.Goals as goal

pub returns-then-is_near : goal.returns-then-is_near
returns-then-is_near c =
    let a = c.args in
    seek_found a.portion.now a.to a.k c.loop-i.i c.loop-i.four c.loop-i.invariant (omega arith) (omega arith) (sym c.is_near.ensures ∙ c.if-is_near.true)

pub loop-i-preserved : goal.loop-i-preserved
loop-i-preserved c =
    let a = c.args in
    seek-more a.portion.now a.to a.k c.loop-i.i c.loop-i.four c.loop-i.invariant (omega arith) (omega arith) (sym c.is_near.ensures ∙ c.if-is_near.false)

pub returns : goal.returns
returns c =
    let a = c.args in
    seek-end a.portion.now a.to a.k c.loop-i.i c.loop-i.four c.loop-i.invariant (omega arith)
