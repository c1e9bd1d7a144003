-- `walk::walk` judges packets one after the other: each is decided and then done. The loop's invariant says that what is still to be done
-- gives what was wanted; the measure is what is left of the zone. Assumes nothing.
use mathlib.Core.Path.{sym, ◌∙◌}
use native.Mathlib.Omega.{arith}
use borrow.Author.Rules.{rules}
use lib.ListN.{drop}
use Rattle.octets.proofs.Lists.{unmap}
use Rattle.state.specs.Slots.{station_of}
use Rattle.state.specs.Sound.{Sized}
use Rattle.state.proofs.Places.{needs-fit}
use Rattle.zone.proofs.Turns.{Walking, begins, stops-here, Taken, taken, inside, packet-here, header-here, skips, says, ready, turns}
use Rattle.walk.proofs.walk.Goals as goal
use Rattle.walk.proofs.walk.Goals.{After-size, At-loop-bad, Start}

sized : (c : Start) → Sized (station_of c.args.head c.args.owner.now c.args.slots)
sized c =
    record { watched = search (rules, unmap); desks = search (rules, unmap); owner = c.requires.owners; slots = search (rules, unmap) }

-- where the code begins and where a turn does, from where a packet's size is known
abbrev start : After-size → Start
start z = (goal.at.After-size z).Start

abbrev turn : After-size → At-loop-bad
turn z = (goal.at.After-size z).At-loop-bad

-- where the walk stands there
abbrev WalkingIn : After-size → Type 0
WalkingIn z =
    let i = (start z).args in
    let l = (turn z).loop-bad in
    Walking i.channel (station_of i.head i.owner.now i.slots) i.zone.now i.from i.store.now i.n i.list.now
    (station_of i.head l.owner l.kept) l.store l.list l.events l.at

abbrev walking : (z : After-size) → WalkingIn z
walking z = (turn z).loop-bad.invariant

-- and that packet
here : (z : After-size)
    → Taken (drop (turn z).loop-bad.at (start z).args.zone.now) z.in-Take.h z.size.result
here z = taken (walking z) z.next_at.ensures z.in-Take.is z.size.ensures

pub loop-bad-init : goal.loop-bad-init
loop-bad-init c = begins _ _ _ _ _ _ _ (sized (goal.at.loop-bad-init c).Start) c.requires

pub returns-in-End : goal.returns-in-End
returns-in-End c = stops-here c.loop-bad.invariant c.next_at.ensures c.in-End.is

pub slice_bounds-packet-end : goal.slice_bounds-packet-end
slice_bounds-packet-end c = omega (arith, inside (walking c) (here c))

pub rule-requires : goal.rule-requires
rule-requires c =
    let w = walking (goal.at.rule-requires c).After-size in
    (packet-here w (here (goal.at.rule-requires c).After-size), header-here w (here (goal.at.rule-requires c).After-size), needs-fit w.sized w.going.sound)

pub loop-bad-preserved-in-Skips : goal.loop-bad-preserved-in-Skips
loop-bad-preserved-in-Skips c =
    turns (walking (goal.at.loop-bad-preserved-in-Skips c).After-size) (here (goal.at.loop-bad-preserved-in-Skips c).After-size) (skips (walking (goal.at.loop-bad-preserved-in-Skips c).After-size) (here (goal.at.loop-bad-preserved-in-Skips c).After-size) c.rule.ensures c.in-Skips.is)

pub loop-bad-preserved-in-Says : goal.loop-bad-preserved-in-Says
loop-bad-preserved-in-Says c =
    let told = c.emit-events.ensures in
    turns (walking (goal.at.loop-bad-preserved-in-Says c).After-size) (here (goal.at.loop-bad-preserved-in-Says c).After-size)
    (says (walking (goal.at.loop-bad-preserved-in-Says c).After-size) (here (goal.at.loop-bad-preserved-in-Says c).After-size) c.rule.ensures c.in-Says.is told.value told.list_after)

pub carry_out-told-requires : goal.carry_out-told-requires
carry_out-told-requires c =
    let w = walking (goal.at.carry_out-told-requires c).After-size in
    let h = here (goal.at.carry_out-told-requires c).After-size in
    record { ready = ready w h; whole = (packet-here w h, header-here w h, sym c.rule.ensures ∙ c.in-Does.is) }

pub loop-bad-preserved : goal.loop-bad-preserved
loop-bad-preserved c =
    turns (walking (goal.at.loop-bad-preserved c).After-size) (here (goal.at.loop-bad-preserved c).After-size) c.carry_out-told.ensures
