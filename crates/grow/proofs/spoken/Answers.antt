-- `grow::spoken` meets its contract: a channel has an entry if its count is not 0. Assumes nothing.
use mathlib.Core.Path.{◌≡◌, ◌∙◌}
use mathlib.Core.Bool.{not}
use native.Mathlib.Omega.{arith}
use borrow.Author.Rules.{rules}
use Prim.Native.Nat.{ℕ}
use lib.Dec.{eqb}
use Rattle.std.specs.Prelude.{count_by}
use Rattle.std.proofs.lemmas.List.Sums.{count_by-le-length}
use Rattle.grow.proofs.Writing.{speaking}
use Rattle.grow.proofs.spoken.Goals as goal

pub returns : goal.returns
returns c =
    let counts = c.args.counts in
    let n : c.count.result ≡ count_by (λ (k : ℕ). not (eqb k 0)) counts = search rules in
    (n ∙ speaking counts (search rules), omega (arith, n, count_by-le-length (λ (k : ℕ). not (eqb k 0)) counts))
