use mathlib.Core.Path.{◌≡◌}
use mathlib.Core.Bool.{not, ◌&&◌}
use lib.ListN.{drop}
use Rattle.stream.specs.Seek.{quiet}
use Rattle.stream.proofs.is_quiet.Given as goal

abbrev pub invariant-loop-x : goal.invariant-loop-x
invariant-loop-x l = quiet l.s ≡ (not l.any && quiet (drop l.x-index l.s))
