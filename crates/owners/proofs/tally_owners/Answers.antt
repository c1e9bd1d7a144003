-- `tally_owners` meets its contract: the tally begins as that of no block. Assumes nothing.
use native.Mathlib.Omega.{arith}
use Rattle.owners.proofs.Counts.{tallied-none}
use Rattle.owners.proofs.tally_owners.Goals as goal

pub tally_eights-eights-requires : goal.tally_eights-eights-requires
tally_eights-eights-requires c =
    let none = tallied-none c.args.owner.now in
    record { n_bound = (omega arith, omega arith, none.all); tallies = none.each-octet }
