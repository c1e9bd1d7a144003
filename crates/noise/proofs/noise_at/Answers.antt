-- `noise::noise_at` meets its contract: each entry of the table is an octet of the sequence, which repeats. Assumes nothing.
use mathlib.Core.Path.{ap, ◌∙◌}
use mathlib.Core.List.{List}
use Prim.Native.Nat.{ℕ, ◌%◌}
use native.Mathlib.Omega.{arith}
use lib.ListN.{get_or}
use Rattle.noise.proofs.Rule.{follows, noise-mod}
use Rattle.noise.proofs.noise_at.Goals as goal

pub returns : goal.returns
returns c =
    let i = c.args.i in
    ap (λ (table : List ℕ). get_or table (i % 255) 0) c.table-table.ensures ∙ follows (i % 255) (omega arith) ∙ noise-mod i
