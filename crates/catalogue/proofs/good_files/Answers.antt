use native.Mathlib.Omega.{arith}
use mathlib.Core.Logic.{inl, inr}
use Rattle.catalogue.proofs.Walks.{filing, file-good, file-bad, file-end}
use Rattle.catalogue.proofs.good_files.Goals as goal

pub loop-i-init : goal.loop-i-init
loop-i-init c = filing _ _ _ (omega arith)

pub returns-then-s-p-gt-LAST : goal.returns-then-s-p-gt-LAST
returns-then-s-p-gt-LAST c = file-bad c.loop-i.invariant (omega arith) (inl (omega arith))

pub returns-then-u16_at-gt-LAST_FILE : goal.returns-then-u16_at-gt-LAST_FILE
returns-then-u16_at-gt-LAST_FILE c = file-bad c.loop-i.invariant (omega arith) (inr (inl (omega arith)))

pub returns-then-u64_at-eq0 : goal.returns-then-u64_at-eq0
returns-then-u64_at-eq0 c = file-bad c.loop-i.invariant (omega arith) (inr (inr (omega arith)))

pub loop-i-preserved : goal.loop-i-preserved
loop-i-preserved c = file-good c.loop-i.invariant (omega arith) (omega arith) (omega arith) (omega arith)

pub returns : goal.returns
returns c = file-end c.loop-i.invariant (omega arith)
