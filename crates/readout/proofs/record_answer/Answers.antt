-- `readout::record_answer` meets its contract. Assumes nothing.
use mathlib.Core.Path.{sym, ◌∙◌}
use borrow.Author.Rules.{rules}
use Rattle.octets.proofs.Lists.{whole-rest}
use Rattle.text.proofs.Following.{behind}
use Rattle.readout.specs.Readout.{record_text}
use Rattle.readout.proofs.record_answer.Goals as goal

pub returns-in-Err : goal.returns-in-Err
unfolding record_text
returns-in-Err c = (
  search rules,
  rw (← whole-rest c.args.q.now 2, ← c.u16_at-n.ensures, sym c.read_record.ensures.value ∙ c.in-Err.is)
      c.with_number.ensures.1,
)

pub returns-in-Ok : goal.returns-in-Ok
unfolding record_text
returns-in-Ok c = (
  search rules,
  rw (← whole-rest c.args.q.now 2, ← c.u16_at-n.ensures, sym c.read_record.ensures.value ∙ c.in-Ok.is)
      (behind c.with_number-begun.ensures.1 c.numbers.ensures.1),
)
