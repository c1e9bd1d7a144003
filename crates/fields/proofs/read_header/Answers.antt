-- `fields::read_header` meets its contract: the answer follows the judgement. Assumes nothing.
use Rattle.std.specs.Prelude.{Ok}
use mathlib.Core.Path.{sym, ap, ◌∙◌}
use native.Mathlib.Omega.{arith}
use Rattle.refusals.specs.Refusals.{refuse}
use Rattle.refusals.proofs.Passing.{passed_on}
use Rattle.records.specs.Table.{fixed_types}
use Rattle.records.specs.Records.{header_says, header_of}
use Rattle.records.specs.Reader.{fields_of, read_header}
use Rattle.records.proofs.Passing.{Accepts}
use Rattle.records.proofs.Answering.{good-accepts, header-part, header-fine, answered}
use Rattle.records.proofs.Said.{header-told}
use Rattle.fields.proofs.read_header.Goals as goal
use Rattle.fields.proofs.read_header.Goals.{In_ok-judge}

-- behind the judgement
accepted : (c : In_ok-judge) → Accepts fixed_types c.args.file.now
accepted c = good-accepts _ _ c.judge.ensures c.in_ok-judge.was

pub u32_at-end-requires : goal.u32_at-end-requires
u32_at-end-requires c = omega (arith, (accepted c).head.long)

pub slice_bounds-fields-end : goal.slice_bounds-fields-end
slice_bounds-fields-end c = omega (arith, (accepted (goal.at.slice_bounds-fields-end c).In_ok-judge).head.within)

pub fields-requires : goal.fields-requires
fields-requires c = header-fine _ _ (header-part _ c.u32_at-end.ensures) (accepted (goal.at.fields-requires c).In_ok-judge)

pub returns-in_err-judge : goal.returns-in_err-judge
unfolding read_header
returns-in_err-judge c =
    let file = c.args.file.now in
    let told = header-told file
    (passed_on _ c.from_residual.ensures.1
    ∙ sym (answered (header_says fixed_types file) (Ok (fields_of (header_of file))) refuse c.judge.ensures c.in_err-judge.was)) in
    record { value = told.0; result_value = told.1 }

pub returns : goal.returns
unfolding read_header
returns c =
    let file = c.args.file.now in
    let told = header-told file
    (ap Ok (c.fields.ensures ∙ ap fields_of (header-part file c.u32_at-end.ensures))
    ∙ sym (answered (header_says fixed_types file) (Ok (fields_of (header_of file))) refuse c.judge.ensures c.in_ok-judge.was)) in
    record { value = told.0; result_value = told.1 }
