-- `readout::header_answer` meets its contract. Assumes nothing.
use borrow.Author.Rules.{rules}
use Rattle.readout.specs.Readout.{header_text}
use Rattle.readout.proofs.header_answer.Goals as goal

pub returns-in-Err : goal.returns-in-Err
unfolding header_text
returns-in-Err c = (
  search rules,
  rw (← c.read_header.ensures.value, c.in-Err.is) c.with_number.ensures.1,
)

pub returns-in-Ok : goal.returns-in-Ok
unfolding header_text
returns-in-Ok c =
    rw (← c.read_header.ensures.value, c.in-Ok.is) c.fields.ensures
