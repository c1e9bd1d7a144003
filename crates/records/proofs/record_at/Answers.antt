-- `records::record_at` meets its contract. Assumes nothing.
use Rattle.records.proofs.Reading.{record-ended, record-whole}
use Rattle.records.proofs.record_at.Goals as goal

pub returns-then-left-lt-LEAST : goal.returns-then-left-lt-LEAST
returns-then-left-lt-LEAST c = record-ended _ _ _ c.requires c.if-left-lt-LEAST.true c.number.ensures.0

pub returns : goal.returns
returns c = record-whole _ _ _ c.requires c.u16_at.ensures
