use native.Mathlib.Omega.{arith}
use mathlib.Core.Logic.{inl, inr}
use Rattle.catalogue.proofs.Walks.{indexing, image-good, image-bad, image-end}
use Rattle.catalogue.proofs.rising_images.Goals as goal

pub loop-i-init : goal.loop-i-init
loop-i-init c = indexing _ _ _ _ (omega arith)

pub returns-then-index-least : goal.returns-then-index-least
returns-then-index-least c = image-bad c.loop-i.invariant (omega arith) c.u16_at-index.ensures (inl (omega arith))

pub returns-then-index-n : goal.returns-then-index-n
returns-then-index-n c = image-bad c.loop-i.invariant (omega arith) c.u16_at-index.ensures (inr (omega arith))

pub loop-i-preserved : goal.loop-i-preserved
loop-i-preserved c = image-good c.loop-i.invariant (omega arith) c.u16_at-index.ensures (omega arith) (omega arith)

pub returns : goal.returns
returns c = image-end c.loop-i.invariant (omega arith)
