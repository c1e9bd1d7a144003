use mathlib.Core.Path.{◌≡◌, ◌∙◌}
use Prim.Native.Nat.{ℕ, ◌<◌}
use borrow.Author.Rules.{rules}
use lib.ListN.{length, get_or}
use mir.Syntax.{w8}
use mir.Val.{Fits}
use Rattle.hunter.proofs.Hunting.{sought-at, sought-nowhere, Started}
use Rattle.hunter.proofs.slide.Goals as goal
use Rattle.hunter.proofs.slide.Goals.{After-seek, In-At, Start}

-- what is known of the hunter at the start
size : (c : Start) → length c.args.h.octets ≡ 1024
size c = search rules

fits : (c : Start) (i : ℕ) → Fits w8 (get_or c.args.h.octets i 0)
fits c i = search rules

-- from the search back to the start
abbrev start : After-seek → Start
start c = (goal.at.After-seek c).Start

octet : (c : After-seek) (i : ℕ) → get_or (start c).args.portion.now i 0 < 256
octet c i = (c.type_inv.portion i).fits

-- the marker was found
found : (c : In-At)
    → let a = (start (goal.at.In-At c).After-seek).args in
    Started a.h a.portion.now a.buffer.now c.in-At.next c.in-At.four
found c =
    let begun = start (goal.at.In-At c).After-seek in
    let a = begun.args in
    let p = begun.requires in
    sought-at a.h p.sound a.portion.now a.buffer.now p.room p.few p.enough (octet (goal.at.In-At c).After-seek) (λ i. (fits begun i).fits) _ _ _
    c.copy.ensures c.u24_at-three.ensures.0 c.seek.ensures _ _ c.in-At.is

pub fill-requires : goal.fill-requires
fill-requires c = rw c.spread.ensures (found (goal.at.fill-requires c).In-At).settled

pub returns-in-At : goal.returns-in-At
returns-in-At c =
    c.fill.ensures ∙ rw c.spread.ensures (found (goal.at.returns-in-At c).In-At).hunts

pub returns-in-Nowhere : goal.returns-in-Nowhere
returns-in-Nowhere c =
    let begun = start (goal.at.returns-in-Nowhere c).After-seek in
    let a = begun.args in
    let p = begun.requires in
    rw (c.none_found.ensures, c.spread-in-Nowhere.ensures)
    (sought-nowhere a.h p.sound a.portion.now a.buffer.now p.room p.few p.enough (octet (goal.at.returns-in-Nowhere c).After-seek) (λ i. (fits begun i).fits) _ _ _
    c.copy.ensures c.u24_at-three.ensures.0 c.seek.ensures _ c.in-Nowhere.is)
