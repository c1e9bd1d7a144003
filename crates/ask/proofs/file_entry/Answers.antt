-- `ask::file_entry` meets its contract. Assumes nothing.
use Rattle.catalogue.proofs.Asking.{file-made}
use Rattle.ask.proofs.file_entry.Goals as goal

pub returns : goal.returns
returns c = file-made _ _ c.requires c.u16_at.ensures c.u16_at-2.ensures c.u64_at.ensures
