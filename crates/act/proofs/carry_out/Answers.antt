-- `act::carry_out` meets its contract: what was decided is known, and each act is a call. Assumes nothing.
use mathlib.Core.Path.{◌≡◌, ◌∙◌, ap}
use Prim.Native.Nat.{◌-◌, ◌≤◌}
use native.Mathlib.Omega.{arith}
use borrow.Author.Rules.{rules}
use lib.ListN.{length}
use Rattle.octets.specs.Number.{part}
use Rattle.octets.proofs.Lists.{unmap}
use Rattle.events.specs.Event.{at}
use Rattle.state.specs.Slots.{station_of}
use Rattle.state.specs.Sound.{Sized}
use Rattle.judge.specs.declared.Act.{Act}
use Rattle.judge.specs.declared.Ruling.TheVariants.{Does}
use Rattle.judge.specs.Judge.{judged}
use Rattle.judge.specs.Ruling.{ruling_of, acted}
use Rattle.judge.proofs.Parts.{whole-checked, data-few, data-cut}
use Rattle.judge.proofs.Flat.{tells_as, tells-one}
use Rattle.judge.proofs.Rulings.{Decided, ruled-does, does-known, does-file}
use Rattle.act.proofs.Finding.{placed-fresh, found-going}
use Rattle.act.proofs.Telling.{ready-less, tells-goes-on, act-opens, act-ends}
use Rattle.act.proofs.carry_out.Goals as goal
use Rattle.act.proofs.carry_out.Goals.{Start}

sized : (c : Start) → Sized (station_of c.args.head c.args.owner.now c.args.slots)
sized c =
    record { watched = search (rules, unmap); desks = search (rules, unmap); owner = c.requires.ready.owners; slots = search (rules, unmap) }

checked : (i : Start) → 9 ≤ length i.args.packet.now
checked i = whole-checked i.requires.whole.0 (does-file _ _ _ _ i.requires.whole.2)

few : (i : Start) → length (part 6 (length i.args.packet.now - 2 - 6) i.args.packet.now) ≤ 8190
few i = rw data-cut (data-few i.requires.whole.0)

ruled : (i : Start) {a : Act} → i.args.act ≡ a → ruling_of i.args.channel i.args.head.blocks i.args.slots i.args.packet.now ≡ Does a
ruled i e = i.requires.whole.2 ∙ ap Does e

-- what is known of the act, and what the packet does by it
known : (i : Start) {a : Act} → i.args.act ≡ a
    → Decided i.args.channel i.args.head.blocks i.args.slots i.args.h (part 6 (length i.args.packet.now - 2 - 6) i.args.packet.now) a
known i e = does-known _ _ _ _ (ruled i e) i.requires.whole.1 (data-cut i.args.packet.now)

does : (i : Start) {a : Act} → i.args.act ≡ a
    → judged i.args.channel (station_of i.args.head i.args.owner.now i.args.slots) i.args.store.now i.args.packet.now
    ≡ acted i.args.channel (station_of i.args.head i.args.owner.now i.args.slots) i.args.store.now i.args.h
    (part 6 (length i.args.packet.now - 2 - 6) i.args.packet.now) a
does i e = ruled-does _ _ _ _ i.requires.whole.1 (data-cut i.args.packet.now) (ruled i e)

pub slice_bounds-data-count : goal.slice_bounds-data-count
slice_bounds-data-count c = omega (arith, checked (goal.at.slice_bounds-data-count c).Start)

pub slice_bounds-data-start : goal.slice_bounds-data-start
slice_bounds-data-start c = omega (arith, checked (goal.at.slice_bounds-data-start c).Start)

pub open_at-requires : goal.open_at-requires
open_at-requires c =
    let f = placed-fresh _ (sized (goal.at.open_at-requires c).Start) _ _ (known (goal.at.open_at-requires c).Start c.in-Opens.is) in
    record {
      ready = ready-less c.requires.ready 2 (omega arith);
      fresh = (f.low, f.free, f.some, f.fits, few (goal.at.open_at-requires c).Start);
    }

pub returns-in-Opens : goal.returns-in-Opens
returns-in-Opens c =
    tells_as (does (goal.at.returns-in-Opens c).Start c.in-Opens.is ∙ act-opens _ _ _ _ _ _ _) c.open_at.ensures

pub begin_over-requires : goal.begin_over-requires
begin_over-requires c =
    let known = known (goal.at.begin_over-requires c).Start c.in-Over.is in
    let low = (found-going _ (sized (goal.at.begin_over-requires c).Start) c.requires.ready.sound _ _ known.0).low in
    record {
      ready = c.requires.ready;
      placed = (low, known.1, few (goal.at.begin_over-requires c).Start);
    }

pub returns-in-Over : goal.returns-in-Over
returns-in-Over c =
    tells_as (does (goal.at.returns-in-Over c).Start c.in-Over.is) c.begin_over.ensures

pub go_on-requires : goal.go_on-requires
go_on-requires c =
    let g = found-going _ (sized (goal.at.go_on-requires c).Start) c.requires.ready.sound _ _ (known (goal.at.go_on-requires c).Start c.in-GoesOn.is) in
    let least = c.requires.ready.sound.set_up.least in record {
      lent = (g.low, omega (arith, c.requires.ready.owners, least), c.requires.ready.blocks, omega (arith, c.requires.ready.enough));
      place_in_bounds = (omega (arith, g.less, g.places), few (goal.at.go_on-requires c).Start);
    }

pub returns-in-GoesOn : goal.returns-in-GoesOn
returns-in-GoesOn c =
    let e = c.go_on.ensures in
    tells_as (does (goal.at.returns-in-GoesOn c).Start c.in-GoesOn.is)
    (tells-goes-on _ _ _ _ _ _ _ _ e.slots_value e.store_after e.events_value)

pub end_file-requires : goal.end_file-requires
end_file-requires c =
    let low = (found-going _ (sized (goal.at.end_file-requires c).Start) c.requires.ready.sound _ _ (known (goal.at.end_file-requires c).Start c.in-Ends.is)).low in
    search rules

pub returns-in-Ends : goal.returns-in-Ends
returns-in-Ends c =
    tells_as (does (goal.at.returns-in-Ends c).Start c.in-Ends.is ∙ act-ends _ _ _ _ _ _ c.end_file.ensures.slots_after)
    (tells-one _ _ (at 6 _ _) c.end_file.ensures.events_value.0 c.end_file.ensures.events_value.1)
