use Rattle.sections.proofs.Chain.{Chaining}
use Rattle.sections.proofs.is_sections.Given as goal

abbrev pub invariant-loop-size : goal.invariant-loop-size
invariant-loop-size l = Chaining l.s l.at l.sizes l.size-index l.p
