-- `vectors::answers::noise_octets` meets its contract: what is written so far, with the digits of the octets left, is the whole. Assumes nothing.
use Rattle.vectors.proofs.Sounding.{Sounding}
use Rattle.vectors.proofs.answers.noise_octets.Given as goal

abbrev pub invariant-loop-i : goal.invariant-loop-i
invariant-loop-i l = Sounding l.from l.number l.initial.out l.at l.out l.end l.i
