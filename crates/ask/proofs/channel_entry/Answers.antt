-- `ask::channel_entry` meets its contract. Assumes nothing.
use Rattle.catalogue.proofs.Asking.{channel-made}
use Rattle.ask.proofs.channel_entry.Goals as goal

pub returns : goal.returns
returns c = channel-made _ _ c.requires c.u16_at.ensures
