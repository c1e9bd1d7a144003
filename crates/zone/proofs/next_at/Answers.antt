-- `zone::next_at` is the definition `next_of` of the zone from the place on. Assumes nothing.
use mathlib.Core.Path.{sym}
use native.Mathlib.Omega.{arith}
use lib.ListN.{drop, length-drop}
use Rattle.zone.proofs.Turns.{next-short, next-bad, next-part, next-whole, seen}
use Rattle.zone.proofs.next_at.Goals as goal

pub returns-in-Short : goal.returns-in-Short
returns-in-Short c =
    let i = c.args in
    sym (next-short (drop i.at i.zone.now) (seen i.zone.now i.at c.look_at.ensures c.in-Short.is))

pub returns-in-Bad : goal.returns-in-Bad
returns-in-Bad c =
    let i = c.args in
    sym (next-bad (drop i.at i.zone.now) (seen i.zone.now i.at c.look_at.ensures c.in-Bad.is))

pub returns-then-zone-at : goal.returns-then-zone-at
returns-then-zone-at c =
    let i = c.args in
    sym
    (next-part (drop i.at i.zone.now) (seen i.zone.now i.at c.look_at.ensures c.in-Good.is)
    (omega (arith, c.size.ensures, length-drop i.at i.zone.now)))

pub returns-else-zone-at : goal.returns-else-zone-at
returns-else-zone-at c =
    let i = c.args in
    sym
    (next-whole (drop i.at i.zone.now) (seen i.zone.now i.at c.look_at.ensures c.in-Good.is)
    (omega (arith, c.size.ensures, length-drop i.at i.zone.now)))
