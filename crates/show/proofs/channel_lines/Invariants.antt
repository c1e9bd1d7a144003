-- `show::channel_lines` meets its contract. What is written so far, and the lines of the channels that are left, is the whole. Assumes
-- nothing.
use Rattle.show.proofs.Showing.{Channelling}
use Rattle.show.proofs.channel_lines.Given as goal

abbrev pub invariant-loop-i : goal.invariant-loop-i
invariant-loop-i l = Channelling l.n l.watched l.desks l.initial.out l.at l.out l.end l.i
