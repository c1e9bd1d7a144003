-- `drive::calls::frame_lent` meets its contract. Assumes nothing.
use native.Mathlib.Omega.{arith}
use borrow.Author.Rules.{rules}
use Rattle.octets.proofs.Lists.{unmap}
use Rattle.state.specs.Sound.{Sized}
use Rattle.station.proofs.Handed.{went_on}
use Rattle.drive.proofs.Outcomes.{frame-told}
use Rattle.drive.proofs.Listed.{events-listed}
use Rattle.drive.proofs.calls.frame_lent.Goals as goal
use Rattle.drive.proofs.calls.frame_lent.Goals.{Start}

sized : (c : Start) → Sized c.args.s
sized c =
    record { watched = search (rules, unmap); desks = search (rules, unmap); owner = search rules; slots = search (rules, unmap) }

pub frame_lines-end-requires : goal.frame_lines-end-requires
frame_lines-end-requires c =
    let few = events-listed c.args.s (sized (goal.at.frame_lines-end-requires c).Start) _ _ _ _ c.take_frame-f.ensures in
    (search (rules, few.1, c.take_frame-f.auto), omega (arith, few.0))

pub returns : goal.returns
returns c =
    let e = c.take_frame-f.ensures in
    let few = events-listed c.args.s (sized (goal.at.returns c).Start) _ _ _ _ e in
    let line = c.frame_lines-end.ensures in
    record {
      went_on = went_on e;
      end_bound = (omega (arith, line.0, few.0), rw (frame-told e) at line.1);
    }
