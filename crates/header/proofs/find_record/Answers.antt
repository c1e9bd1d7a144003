-- `header::find_record` meets its contract. The invariant: the records from here on, at the number that is left, give what was sought.
-- Assumes nothing.
use mathlib.Core.Path.{sym}
use native.Mathlib.Omega.{arith}
use Rattle.records.specs.Records.{nth}
use Rattle.records.proofs.Walk.{begin, place-of, ends, found, turn}
use Rattle.records.proofs.Finding.{nth_here, nth-later}
use Rattle.header.proofs.find_record.Goals as goal

pub loop-at-init : goal.loop-at-init
loop-at-init c = begin _ _

pub returns-then-left-eq0 : goal.returns-then-left-eq0
returns-then-left-eq0 c =
    sym
    (found c.loop-at.invariant c.record_at-r.ensures c.loop-at-test.true _
    (λ rs. nth_here _ rs _ c.if-left-eq0.true))

pub next_place-at-requires : goal.next_place-at-requires
next_place-at-requires c = omega (arith, place-of _ _ c.record_at-r.ensures)

pub loop-at-smaller : goal.loop-at-smaller
loop-at-smaller c = omega (arith, place-of _ _ c.record_at-r.ensures)

pub loop-at-preserved : goal.loop-at-preserved
loop-at-preserved c =
    turn c.loop-at.invariant c.record_at-r.ensures c.loop-at-test.true _ _ c.next_place-at.ensures.0
    c.next_place-at.ensures.1
    (λ rs. nth-later _ rs _ c.if-left-eq0.false)

pub returns : goal.returns
unfolding nth
returns c = sym (ends c.loop-at.invariant c.loop-at-test.false)
