-- `fields::image_at` meets its contract. Assumes nothing.
use mathlib.Core.Path.{sym}
use Prim.Native.Nat.{◌+◌}
use native.Mathlib.Omega.{arith}
use Rattle.octets.proofs.Numbers.{number_at-one}
use Rattle.records.specs.Reader.{image_at}
use Rattle.fields.proofs.image_at.Goals as goal

pub returns : goal.returns
unfolding image_at
returns c =
    let start = c.args in
    λ i.
    record {
      bits = sym (number_at-one start.header.now (start.p + 3) (omega arith)) i;
      columns = c.u16_at.ensures i;
      lines = c.u16_at-2.ensures i;
      compression = sym (number_at-one start.header.now (start.p + 8) (omega arith)) i;
    }
