-- `walk::walk_rest` holds what the walk leaves, and tells a bad header. Assumes nothing.
use Rattle.walk.proofs.Ends.{settling, ends-settled}
use Rattle.walk.proofs.walk_rest.Goals as goal
use Rattle.walk.proofs.walk_rest.Goals.{After-walk-w, Start}

-- where the code begins, from where the zone was walked
abbrev start : After-walk-w → Start
start w = (goal.at.After-walk-w w).Start

pub settle-left-requires : goal.settle-left-requires
settle-left-requires c =
    let i = start (goal.at.settle-left-requires c).After-walk-w in
    settling i.requires.lent i.requires.from_bound.0 i.requires.from_bound.1 c.walk-w.ensures

pub returns : goal.returns
returns c =
    rw c.leave.ensures (ends-settled c.walk-w.ensures (start (goal.at.returns c).After-walk-w).args.a (start (goal.at.returns c).After-walk-w).args.desks.now c.settle-left.ensures)
