-- `take_accepted` meets its contract, by that of the walk. Assumes nothing.
use borrow.Author.Rules.{rules}
use Rattle.state.specs.Slots.{station_of}
use Rattle.station.proofs.Frames.{walk-taken}
use Rattle.reception.proofs.take_accepted.Goals as goal

pub walk_frame-done-requires : goal.walk_frame-done-requires
walk_frame-done-requires c = c.requires

pub returns : goal.returns
returns c =
    record {
      desk_bound = search rules;
      outcome = walk-taken (station_of c.args.head c.args.owner.now c.args.slots) c.walk_frame-done.ensures;
    }
