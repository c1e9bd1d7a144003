-- `header::judge_records` meets its contract. The invariant: the marks are those of the records before, and the records from here on decide.
-- Assumes nothing.
use mathlib.Core.Path.{sym, ◌∙◌}
use native.Mathlib.Omega.{arith}
use Rattle.refusals.proofs.Passing.{passed_on}
use Rattle.records.proofs.Walk.{place-of}
use Rattle.records.proofs.Marking.{judging-begins, judging-ends, judging-refused, judging-on}
use Rattle.header.proofs.judge_records.Goals as goal

pub loop-at-init : goal.loop-at-init
loop-at-init c = judging-begins _ _

pub judge_record-requires : goal.judge_record-requires
judge_record-requires c = omega (arith, place-of _ _ c.record_at-r.ensures)

pub returns-in_err-judge_record : goal.returns-in_err-judge_record
returns-in_err-judge_record c =
    passed_on _ c.from_residual.ensures.1 ∙ sym
    (judging-refused _ c.loop-at.invariant c.record_at-r.ensures c.loop-at-test.true (omega arith)
    c.judge_record.ensures
    _
    c.in_err-judge_record.was)

pub next_place-at-requires : goal.next_place-at-requires
next_place-at-requires c = omega (arith, place-of _ _ c.record_at-r.ensures)

pub loop-at-smaller : goal.loop-at-smaller
loop-at-smaller c = omega (arith, place-of _ _ c.record_at-r.ensures)

pub loop-at-preserved : goal.loop-at-preserved
loop-at-preserved c =
    judging-on _ c.loop-at.invariant c.record_at-r.ensures c.loop-at-test.true (omega arith)
    c.judge_record.ensures
    _
    c.in_ok-judge_record.was
    c.next_place-at.ensures.0
    c.next_place-at.ensures.1

pub returns : goal.returns
returns c = sym (judging-ends _ c.loop-at.invariant c.loop-at-test.false)
