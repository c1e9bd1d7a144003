-- `text::hex_octets` meets its contract. What is written so far, and the digits of the octets that are left, is the whole. Assumes nothing.
use Rattle.text.proofs.Following.{Spelling}
use Rattle.text.proofs.hex_octets.Given as goal

abbrev pub invariant-loop-x : goal.invariant-loop-x
invariant-loop-x l = Spelling l.s l.initial.out l.at l.out l.end l.x-index
