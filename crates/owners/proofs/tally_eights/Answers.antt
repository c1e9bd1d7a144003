-- `tally_eights` meets its contract. The loop's invariant: the tally is right for the blocks of the turns so far. Assumes nothing.
use Prim.Native.Nat.{◌+◌, ◌*◌}
use native.Mathlib.Omega.{arith}
use borrow.Author.Rules.{rules}
use Rattle.owners.proofs.Counts.{tallied-at}
use Rattle.owners.proofs.tally_eights.Goals as goal

pub loop-turn-init : goal.loop-turn-init
loop-turn-init c = record { all = search rules; each-octet = c.requires.tallies }

pub tally_four-requires : goal.tally_four-requires
tally_four-requires c = record {
  b_bound = (omega arith, omega arith, search rules);
  tallies = c.loop-turn.invariant.each-octet;
}

pub loop-turn-preserved : goal.loop-turn-preserved
loop-turn-preserved c = tallied-at (c.loop-turn.turn * 8 + 4 + 4) (search rules) c.tally_four-in-loop-turn.ensures (omega arith)

pub returns : goal.returns
returns c =
    let l = c.loop-turn in
    (omega arith, (tallied-at (l.turn * 8) l.invariant.all l.invariant.each-octet (omega arith)).each-octet)
