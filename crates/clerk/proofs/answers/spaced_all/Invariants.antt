-- `clerk::answers::spaced_all` meets its contract. Assumes nothing.
use Rattle.clerk.proofs.Saying.{Spacing}
use Rattle.clerk.proofs.answers.spaced_all.Given as goal

abbrev pub invariant-loop-n : goal.invariant-loop-n
invariant-loop-n l = Spacing l.numbers l.initial.out l.at l.out l.end l.n-index
