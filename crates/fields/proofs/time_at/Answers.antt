-- `fields::time_at` meets its contract. Assumes nothing.
use mathlib.Core.Path.{sym}
use Prim.Native.Nat.{◌+◌}
use native.Mathlib.Omega.{arith}
use Rattle.octets.proofs.Numbers.{number_at-one}
use Rattle.records.specs.Reader.{time_at}
use Rattle.fields.proofs.time_at.Goals as goal

pub returns : goal.returns
unfolding time_at
returns c =
    let start = c.args in
    λ i.
    record {
      pfield = sym (number_at-one start.header.now (start.p + 3) (omega arith)) i;
      days = c.u16_at.ensures i;
      milliseconds = c.u32_at.ensures i;
    }
