-- `carry_out` of clerk's `Memory` meets the contract of `Obeys`: no more is lent than there is. Assumes nothing.
use mathlib.Core.Path.{ap}
use Rattle.clerk.specs.declared.Memory.{Memory}
use Rattle.clerk.proofs.Lent.{lent-after}
use Rattle.clerk.proofs.MemoryObeys.carry_out.Goals as goal

pub returns-clause-fits : goal.returns-clause-fits
returns-clause-fits c = lent-after _ _ _ c.requires.0 (ap (λ (m : Memory). m.lent) c.carry_out-a.ensures.buffer_after)
