-- `act::begin_over` meets its contract: the file of the pair is gone, and the new one is refused with an event, or opened where there is room.
-- Assumes nothing.
use mathlib.Core.Path.{◌∙◌}
use borrow.Author.Rules.{rules}
use Rattle.octets.proofs.Lists.{unmap}
use Rattle.events.specs.Event.{at}
use Rattle.state.specs.Slots.{station_of}
use Rattle.state.specs.Sound.{Sized}
use Rattle.judge.proofs.Flat.{tells_as, tells-one}
use Rattle.act.proofs.Finding.{left-fresh}
use Rattle.act.proofs.Telling.{ready-gone, tells-then, over-denied, over-granted}
use Rattle.act.proofs.begin_over.Goals as goal
use Rattle.act.proofs.begin_over.Goals.{Start}

sized : (c : Start) → Sized (station_of c.args.head c.args.owner.now c.args.slots)
sized c =
    record { watched = search (rules, unmap); desks = search (rules, unmap); owner = c.requires.ready.owners; slots = search (rules, unmap) }

pub returns-in-Denied : goal.returns-in-Denied
returns-in-Denied c =
    let e = c.end_file-ended.ensures in
    tells_as (over-denied _ _ _ _ _ _ e.slots_after c.in-Denied.is)
    (tells-then (at 6 _ _) e.events_value.0 e.events_value.1 (tells-one _ _ _ c.emit.ensures.value c.emit.ensures.list_after))

pub open_at-requires : goal.open_at-requires
open_at-requires c =
    let f = left-fresh _ (sized (goal.at.open_at-requires c).Start) _ _ _ c.end_file-ended.ensures.slots_after (c.requires.placed.1 ∙ c.in-Granted.is) in record {
      ready = ready-gone _ 2 _ (sized (goal.at.open_at-requires c).Start) c.requires.placed.0 c.requires.ready c.end_file-ended.ensures.slots_after c.end_file-ended.ensures.events_value.0 c.end_file-ended.ensures.events_value.1;
      fresh = (f.low, f.free, f.some, f.fits, c.requires.placed.2);
    }

pub returns-in-Granted : goal.returns-in-Granted
returns-in-Granted c =
    let e = c.end_file-ended.ensures in
    tells_as (over-granted _ _ _ _ _ _ e.slots_after c.in-Granted.is) (tells-then (at 6 _ _) e.events_value.0 e.events_value.1 c.open_at.ensures)
