-- `header::judge` meets its contract, refusal by refusal. Assumes nothing.
-- behind 21
use mathlib.Core.Path.{◌≡◌, sym, ◌∙◌}
use mathlib.Core.Bool.{true}
use native.Mathlib.Omega.{arith}
use Rattle.refusals.proofs.Passing.{passed_on}
use Rattle.records.specs.Records.{starts_primary}
use Rattle.records.proofs.Passing.{Whole}
use Rattle.records.proofs.Answering.{says-20, says-21-type, says-21-length, starts_with, says-22-least, says-22-beyond, says-records, says-size, header-part}
use Rattle.header.proofs.judge.Goals as goal
use Rattle.header.proofs.judge.Goals.{Else-end-file, Else-u16_at-ne-SIZE}

starts : (c : Else-u16_at-ne-SIZE) → starts_primary c.args.file.now ≡ true
starts c = starts_with _ (omega arith) c.if-file-ne-KIND.false (sym c.u16_at.ensures ∙ c.if-u16_at-ne-SIZE.false)

-- behind 22
whole : (c : Else-end-file) → Whole c.args.file.now
whole c =
    record { long = omega arith; starts = starts (goal.at.Else-end-file c).Else-u16_at-ne-SIZE; least = omega arith; within = omega arith }

pub returns-then-file-lt-SIZE : goal.returns-then-file-lt-SIZE
returns-then-file-lt-SIZE c = sym (says-20 _ _ (omega arith))

pub returns-then-file-ne-KIND : goal.returns-then-file-ne-KIND
returns-then-file-ne-KIND c = sym (says-21-type _ _ (omega arith) c.if-file-ne-KIND.true)

pub returns-then-u16_at-ne-SIZE : goal.returns-then-u16_at-ne-SIZE
returns-then-u16_at-ne-SIZE c = sym (says-21-length _ _ (omega arith) (λ e. c.if-u16_at-ne-SIZE.true (c.u16_at.ensures ∙ e)))

pub returns-then-end-lt-SIZE : goal.returns-then-end-lt-SIZE
returns-then-end-lt-SIZE c = sym (says-22-least _ _ (omega arith) (starts (goal.at.returns-then-end-lt-SIZE c).Else-u16_at-ne-SIZE) (omega arith))

pub returns-then-end-file : goal.returns-then-end-file
returns-then-end-file c = sym (says-22-beyond _ _ (omega arith) (starts (goal.at.returns-then-end-file c).Else-u16_at-ne-SIZE) (omega arith))

pub returns-in_err-judge_records : goal.returns-in_err-judge_records
returns-in_err-judge_records c =
    passed_on _ c.from_residual.ensures.1 ∙ sym
    (says-records _ _ (whole (goal.at.returns-in_err-judge_records c).Else-end-file) (header-part _ c.u32_at-length.ensures) c.judge_records.ensures _
    c.in_err-judge_records.was)

pub returns : goal.returns
returns c =
    c.judge_size.ensures
    ∙ rw (c.u64_at.ensures, c.u32_at-length.ensures)
    (sym
    (says-size _ _ (whole (goal.at.returns c).Else-end-file) (header-part _ c.u32_at-length.ensures) c.judge_records.ensures
    c.in_ok-judge_records.was))
