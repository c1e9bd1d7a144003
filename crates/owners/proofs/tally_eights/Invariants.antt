-- `tally_eights` meets its contract. The loop's invariant: the tally is right for the blocks of the turns so far. Assumes nothing.
use Prim.Native.Nat.{◌*◌}
use Rattle.owners.proofs.Counts.{Tallied}
use Rattle.owners.proofs.tally_eights.Given as goal

abbrev pub invariant-loop-turn : goal.invariant-loop-turn
invariant-loop-turn l = Tallied l.owner (l.turn * 8) l.tally
