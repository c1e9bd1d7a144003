-- `enter::enter` meets its contract: the header's reasons come first. Assumes nothing.
use Rattle.refusals.proofs.Passing.{passed_on}
use Rattle.enter.proofs.Filing.{file-refused, file-read}
use Rattle.enter.proofs.enter.Goals as goal

pub returns-in_err-h : goal.returns-in_err-h
returns-in_err-h c =
    let a = c.args in
    rw (passed_on _ c.from_residual.ensures.1) (file-refused a.buffer.now a.used a.f a.file.now c.read_header.ensures.value c.in_err-h.was)

pub returns : goal.returns
returns c =
    let a = c.args in
    file-read a.buffer.now a.used a.f a.file.now c.read_header.ensures.value c.in_ok-h.was c.entry_for.ensures c.enter_entry.ensures
