use Rattle.sections.proofs.Growing.{Writing}
use Rattle.sections.proofs.write_row.Given as goal

abbrev pub invariant-loop-width : goal.invariant-loop-width
invariant-loop-width l = Writing l.widths l.numbers l.initial.dst l.dst l.at l.p l.width-iterator.a.rest.now l.width-iterator.b.rest.now
