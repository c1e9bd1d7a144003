-- `marked` meets its contract: the frame's first four octets and the marker's, each as one number. Assumes nothing.
use native.Mathlib.Omega.{arith}
use Rattle.octets.specs.Number.{number, number_at}
use Rattle.examine.proofs.Marks.{marker-number}
use Rattle.examine.proofs.marked.Goals as goal

pub returns : goal.returns
unfolding number number_at
returns c =
    rw c.u32_at.ensures
    (marker-number _ (λ i. (c.type_inv.frame i).fits) c.requires _ (omega (arith, c.u32_at-2.ensures)))
