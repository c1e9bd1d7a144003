-- `lines::events` meets its contract. What is written so far, and the lines of the events that are left, is the whole. Assumes nothing.
use Rattle.lines.proofs.Telling.{Lining}
use Rattle.lines.proofs.events.Given as goal

abbrev pub invariant-loop-i : goal.invariant-loop-i
invariant-loop-i l = Lining l.list l.initial.out l.n l.at l.out l.end l.i
