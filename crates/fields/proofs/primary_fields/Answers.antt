-- `fields::primary_fields` meets its contract. Assumes nothing.
use mathlib.Core.Path.{sym}
use native.Mathlib.Omega.{arith}
use Rattle.octets.proofs.Numbers.{number_at-one}
use Rattle.records.specs.Reader.{primary_of}
use Rattle.fields.proofs.primary_fields.Goals as goal

pub returns : goal.returns
unfolding primary_of
returns c =
    let xs = c.args.header.now in
    λ i.
    record {
      filetype = sym (number_at-one xs 3 (omega arith)) i;
      length = c.u32_at.ensures i;
      bits = c.u64_at.ensures i;
    }
