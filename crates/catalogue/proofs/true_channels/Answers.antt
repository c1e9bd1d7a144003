use mathlib.Core.Path.{◌∙◌}
use native.Mathlib.Omega.{arith}
use mathlib.Core.Logic.{inl, inr}
use Rattle.catalogue.proofs.Counting.{comparing, compare-skip, compare-short, compare-other, compare-more, compare-end}
use Rattle.catalogue.proofs.true_channels.Goals as goal

pub loop-c-init : goal.loop-c-init
loop-c-init c = comparing 63 _ _ _ _ (omega arith)

pub loop-c-preserved-then-counts-c-eq0 : goal.loop-c-preserved-then-counts-c-eq0
loop-c-preserved-then-counts-c-eq0 c = compare-skip c.loop-c.invariant (omega arith) c.if-counts-c-eq0.true

pub returns-then-j-k : goal.returns-then-j-k
returns-then-j-k c = compare-short c.loop-c.invariant (omega arith) c.if-counts-c-eq0.false c.if-j-k.true

pub returns-then-s-p : goal.returns-then-s-p
returns-then-s-p c = compare-other c.loop-c.invariant (omega arith) c.if-counts-c-eq0.false (omega arith) (inl c.if-s-p.true)

pub returns-then-u16_at-counts : goal.returns-then-u16_at-counts
returns-then-u16_at-counts c = compare-other c.loop-c.invariant (omega arith) c.if-counts-c-eq0.false (omega arith) (inr (λ q. c.if-u16_at-counts.true (c.u16_at.ensures ∙ q)))

pub loop-c-preserved : goal.loop-c-preserved
loop-c-preserved c = compare-more c.loop-c.invariant (omega arith) c.if-counts-c-eq0.false (omega arith) (omega arith) (omega arith)

pub returns : goal.returns
returns c = compare-end c.loop-c.invariant (omega arith)
