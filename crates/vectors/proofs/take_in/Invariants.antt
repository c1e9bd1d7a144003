-- `vectors::take_in` meets its contract. Assumes nothing.
use mathlib.Core.Path.{◌≡◌}
use lib.ListN.{length, drop}
use Rattle.vectors.specs.Kept.{kept, all_came}
use Rattle.vectors.proofs.take_in.Given as goal

abbrev pub invariant-loop-x : goal.invariant-loop-x
invariant-loop-x l =
    (length l.line ≡ 2050) × (length l.out ≡ 2051) × (all_came l.came (kept l.held l.initial.line l.initial.out) ≡ all_came (drop l.x-index l.came) (kept l.n l.line l.out))
