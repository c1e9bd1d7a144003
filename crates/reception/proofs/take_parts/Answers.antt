-- `take_parts` meets its contract: a frame is refused and nothing changes, or its zone is walked. Assumes nothing.
use mathlib.Core.Path.{sym, ◌∙◌}
use borrow.Author.Rules.{rules}
use Rattle.octets.proofs.Lists.{unmap}
use Rattle.state.specs.declared.Station.{Station}
use Rattle.state.specs.Slots.{station_of}
use Rattle.state.specs.Sound.{Sized}
use Rattle.station.proofs.Frames.{desk-kept, admits, zone-here, walk-lent, frame-taken}
use Rattle.reception.proofs.take_parts.Goals as goal
use Rattle.reception.proofs.take_parts.Goals.{Start}

abbrev state : Start → Station
state i = station_of i.args.head i.args.owner.now i.args.slots

sized : (i : Start) → Sized (state i)
sized i =
    record { watched = search (rules, unmap); desks = search (rules, unmap); owner = search rules; slots = search (rules, unmap) }

pub returns-in-Err : goal.returns-in-Err
returns-in-Err c =
    record { desk_bound = search rules; outcome = desk-kept _ _ _ _ _ 0 (sym c.in-Err.is ∙ c.admit.ensures.value) }

pub take_accepted-requires : goal.take_accepted-requires
take_accepted-requires c =
    let good = c.in-Ok.is in
    let i = (goal.at.take_accepted-requires c).Start in
    let (lent, desks) = walk-lent (sized i) (admits _ _ _ _ _ c.admit.ensures.value good) (zone-here _ (c.admit.ensures.plain_after _ good)) in
    record { lent = lent; desks_sound = desks }

pub returns : goal.returns
returns c =
    let good = c.in-Ok.is in
    let took = c.take_accepted.ensures in
    record {
      desk_bound = took.desk_bound;
      outcome = frame-taken _ _ _ _ _ (sym good ∙ c.admit.ensures.value) (zone-here _ (c.admit.ensures.plain_after _ good)) took.outcome;
    }
