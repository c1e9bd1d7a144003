-- `carry::walk_frame` is the definition `walked`: the zone read at the pointer, or the packet on the desk first. Assumes nothing.
use mathlib.Core.Path.{◌≡◌}
use native.Mathlib.Omega.{arith}
use borrow.Author.Rules.{rules}
use Rattle.octets.proofs.Lists.{unmap}
use Rattle.state.specs.declared.Station.{Station}
use Rattle.state.specs.Slots.{station_of, desk_at}
use Rattle.state.specs.Sound.{Sized}
use Rattle.walk.proofs.Ends.{desk-fits}
use Rattle.carry.specs.Contract.{Begins}
use Rattle.carry.specs.declared.Opening.{Opening}
use Rattle.carry.specs.declared.Opening.TheVariants.{Carries}
use Rattle.carry.proofs.Carry.{beginning, afresh-tells, onward-lacking, onward-most, onward-length, onward-longer, onward-going, onward-lent, onward-few, onward-tells}
use Rattle.carry.proofs.walk_frame.Goals as goal
use Rattle.carry.proofs.walk_frame.Goals.{After-begin, In-Carries, Start}

abbrev station : Start → Station
station i = station_of i.args.head i.args.owner.now i.args.slots

sized : (c : Start) → Sized (station c)
sized c =
    record { watched = search (rules, unmap); desks = search (rules, unmap); owner = c.requires.lent.owners; slots = search (rules, unmap) }

-- where the code begins, from where it is known how the frame does
abbrev start : After-begin → Start
start b = (goal.at.After-begin b).Start

abbrev BeginsBy : After-begin → Opening → Type 0
BeginsBy b x =
    let i = (start b).args in
    Begins (desk_at (station (start b)) i.a.desk) i.a i.zone.now i.desks.now i.list.now x b.begin.new.desks
    b.begin.new.list

begins : (b : After-begin) → {x : Opening} → b.begin.result ≡ x → BeginsBy b x
begins b e = rw e at b.begin.ensures

-- and from where it is the packet on the desk
abbrev begun : In-Carries → After-begin
begun k = (goal.at.In-Carries k).After-begin

onwards : (k : In-Carries) → BeginsBy (begun k) (Carries k.in-Carries.size)
onwards k = begins (begun k) k.in-Carries.is

pub begin-requires : goal.begin-requires
begin-requires c =
    beginning c.requires.lent c.requires.desks_sound

pub returns-in-Reads : goal.returns-in-Reads
returns-in-Reads c =
    let i = start (goal.at.returns-in-Reads c).After-begin in
    let o = begins (goal.at.returns-in-Reads c).After-begin c.in-Reads.is in
    afresh-tells i.requires.lent i.requires.desks_sound o.0 o.1 c.walk_rest.ensures

pub overflow_sub-lacked : goal.overflow_sub-lacked
overflow_sub-lacked c =
    let i = start (begun (goal.at.overflow_sub-lacked c).In-Carries) in
    omega (arith, onward-lacking i.requires.lent i.requires.desks_sound (onwards (goal.at.overflow_sub-lacked c).In-Carries))

pub returns-then-lacked-gt-ZONE : goal.returns-then-lacked-gt-ZONE
returns-then-lacked-gt-ZONE c =
    let i = start (begun (goal.at.returns-then-lacked-gt-ZONE c).In-Carries) in
    rw c.leave.ensures (onward-longer i.requires.lent i.requires.desks_sound (onwards (goal.at.returns-then-lacked-gt-ZONE c).In-Carries) c.if-lacked-gt-ZONE.true)

pub slice_bounds-walk-end : goal.slice_bounds-walk-end
slice_bounds-walk-end c =
    let i = start (begun (goal.at.slice_bounds-walk-end c).In-Carries) in
    let O = onwards (goal.at.slice_bounds-walk-end c).In-Carries in
    omega (
      arith,
      onward-lacking i.requires.lent i.requires.desks_sound O,
      onward-most i.requires.lent i.requires.desks_sound O,
      desk-fits i.requires.lent,
      onward-length i.requires.lent i.requires.desks_sound O,
    )

pub walk-w-requires : goal.walk-w-requires
walk-w-requires c =
    let i = start (begun (goal.at.walk-w-requires c).In-Carries) in
    onward-going i.requires.lent i.requires.desks_sound (onwards (goal.at.walk-w-requires c).In-Carries) c.if-lacked-gt-ZONE.false

pub walk_rest-requires-in-Carries : goal.walk_rest-requires-in-Carries
walk_rest-requires-in-Carries c =
    let i = start (begun (goal.at.walk_rest-requires-in-Carries c).In-Carries) in
    let l = c.if-lacked-gt-ZONE.false in
    let O = onwards (goal.at.walk_rest-requires-in-Carries c).In-Carries in
    record {
      lent = onward-lent i.requires.lent i.requires.desks_sound O l c.walk-w.ensures (sized i);
      from_bound = (l, onward-few i.requires.lent i.requires.desks_sound O l c.walk-w.ensures);
    }

pub returns-else-lacked-gt-ZONE : goal.returns-else-lacked-gt-ZONE
returns-else-lacked-gt-ZONE c =
    let i = start (begun (goal.at.returns-else-lacked-gt-ZONE c).In-Carries) in
    onward-tells i.requires.lent i.requires.desks_sound (onwards (goal.at.returns-else-lacked-gt-ZONE c).In-Carries) c.if-lacked-gt-ZONE.false c.walk-w.ensures c.walk_rest-in-Carries.ensures
