-- `header::find_type` meets its contract. The invariant: the records from here on give what was sought. Assumes nothing.
use mathlib.Core.Path.{sym}
use native.Mathlib.Omega.{arith}
use Rattle.records.specs.Records.{place_of}
use Rattle.records.proofs.Walk.{begin, place-of, ends, found, turn}
use Rattle.records.proofs.Finding.{place_here, place-later}
use Rattle.header.proofs.find_type.Goals as goal

pub loop-at-init : goal.loop-at-init
loop-at-init c = begin _ _

pub returns-then-r-kind : goal.returns-then-r-kind
returns-then-r-kind c =
    sym
    (found c.loop-at.invariant c.record_at-r.ensures c.loop-at-test.true _
    (λ rs. place_here _ rs _ c.if-r-kind.true))

pub next_place-at-requires : goal.next_place-at-requires
next_place-at-requires c = omega (arith, place-of _ _ c.record_at-r.ensures)

pub loop-at-smaller : goal.loop-at-smaller
loop-at-smaller c = omega (arith, place-of _ _ c.record_at-r.ensures)

pub loop-at-preserved : goal.loop-at-preserved
loop-at-preserved c =
    turn c.loop-at.invariant c.record_at-r.ensures c.loop-at-test.true _ _ c.next_place-at.ensures.0
    c.next_place-at.ensures.1
    (λ rs. place-later _ rs _ c.if-r-kind.false)

pub returns : goal.returns
unfolding place_of
returns c = sym (ends c.loop-at.invariant c.loop-at-test.false)
