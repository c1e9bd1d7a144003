-- `header::read_record` meets its contract: the answer follows the judgement. Assumes nothing.
use mathlib.Core.Path.{sym, ap, ◌∙◌}
use mathlib.Core.List.{List}
use Prim.Native.Nat.{ℕ}
use native.Mathlib.Omega.{arith}
use Rattle.refusals.specs.Refusals.{refuse}
use Rattle.refusals.proofs.Passing.{passed_on}
use Rattle.records.specs.Table.{fixed_types}
use Rattle.records.specs.Records.{header_says, header_of, records, nth}
use Rattle.records.specs.Reader.{read_record}
use Rattle.records.proofs.Passing.{Accepts}
use Rattle.records.proofs.Answering.{good-accepts, header-part, answered}
use Rattle.records.proofs.Said.{record-told}
use Rattle.header.proofs.read_record.Goals as goal
use Rattle.header.proofs.read_record.Goals.{In_ok-judge}

-- behind the judgement
accepted : (c : In_ok-judge) → Accepts fixed_types c.args.file.now
accepted c = good-accepts _ _ c.judge.ensures c.in_ok-judge.was

pub u32_at-end-requires : goal.u32_at-end-requires
u32_at-end-requires c = omega (arith, (accepted c).head.long)

pub slice_bounds-find_record-end : goal.slice_bounds-find_record-end
slice_bounds-find_record-end c = omega (arith, (accepted (goal.at.slice_bounds-find_record-end c).In_ok-judge).head.within)

pub returns-in_err-judge : goal.returns-in_err-judge
unfolding read_record
returns-in_err-judge c =
    let start = c.args in
    let told = record-told start.file.now start.n
    (passed_on _ c.from_residual.ensures.1 ∙ sym (answered (header_says fixed_types start.file.now) (nth (records (header_of start.file.now)) start.n) refuse c.judge.ensures c.in_err-judge.was)) in
    record { value = told.0; result_value = told.1 }

pub returns : goal.returns
unfolding read_record
returns c =
    let start = c.args in
    let told = record-told start.file.now start.n
    (c.find_record.ensures ∙ ap (λ (h : List ℕ). nth (records h) start.n) (header-part start.file.now c.u32_at-end.ensures)
    ∙ sym
    (answered (header_says fixed_types start.file.now) (nth (records (header_of start.file.now)) start.n) refuse
    c.judge.ensures
    c.in_ok-judge.was)) in
    record { value = told.0; result_value = told.1 }
