-- `fields::segment_at` meets its contract. Assumes nothing.
use mathlib.Core.Path.{sym}
use Prim.Native.Nat.{◌+◌}
use native.Mathlib.Omega.{arith}
use Rattle.octets.proofs.Numbers.{number_at-one}
use Rattle.records.specs.Reader.{segment_at}
use Rattle.fields.proofs.segment_at.Goals as goal

pub returns : goal.returns
unfolding segment_at
returns c =
    let start = c.args in
    λ i.
    record {
      number = sym (number_at-one start.header.now (start.p + 3) (omega arith)) i;
      total = sym (number_at-one start.header.now (start.p + 4) (omega arith)) i;
      line = c.u16_at.ensures i;
    }
