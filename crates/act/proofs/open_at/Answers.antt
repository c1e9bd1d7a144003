-- `act::open_at` meets its contract: a file just opened has a first block. Assumes nothing.
use borrow.Author.Rules.{rules}
use Rattle.octets.proofs.Lists.{unmap}
use Rattle.state.specs.Slots.{station_of}
use Rattle.state.specs.Sound.{Sized}
use Rattle.act.proofs.Writing.{opened-owners, opened-first}
use Rattle.act.proofs.Telling.{tells-opens}
use Rattle.act.proofs.open_at.Goals as goal
use Rattle.act.proofs.open_at.Goals.{Start}

sized : (c : Start) → Sized (station_of c.args.head c.args.owner.now c.args.slots)
sized c =
    record { watched = search (rules, unmap); desks = search (rules, unmap); owner = c.requires.ready.owners; slots = search (rules, unmap) }

pub write-requires : goal.write-requires
write-requires c =
    let S = c.requires.ready.sound in
    let owners = opened-owners _ _ (sized (goal.at.write-requires c).Start) S c.open_file-after.ensures in
    let first = opened-first _ _ (sized (goal.at.write-requires c).Start) S c.open_file-after.ensures c.requires.fresh.1 c.requires.fresh.2 c.requires.fresh.3 in
    search rules

pub returns : goal.returns
returns c =
    tells-opens _ _ _ _ _ _ _ c.open_file-after.ensures c.write.ensures (c.open_events-events.ensures.value, c.open_events-events.ensures.list_after)
