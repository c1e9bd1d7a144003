-- `vectors::answers::noise_octets` meets its contract: what is written so far, with the digits of the octets left, is the whole. Assumes nothing.
use native.Mathlib.Omega.{arith}
use borrow.Author.Rules.{rules}
use Rattle.vectors.proofs.Sounding.{sounding-none, sounding-more, sounding-all}
use Rattle.vectors.proofs.answers.noise_octets.Goals as goal

pub loop-i-init : goal.loop-i-init
loop-i-init c = sounding-none _ _ _ _

pub loop-i-preserved : goal.loop-i-preserved
loop-i-preserved c =
    sounding-more c.loop-i.invariant (omega arith) c.hex-end.ensures.0 (search rules)
    (rw c.noise_at.ensures at c.hex-end.ensures.1)

pub returns : goal.returns
returns c = (search rules, sounding-all c.loop-i.invariant (omega arith))
