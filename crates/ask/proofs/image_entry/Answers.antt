-- `ask::image_entry` meets its contract. Assumes nothing.
use Rattle.catalogue.proofs.Asking.{image-made}
use Rattle.ask.proofs.image_entry.Goals as goal

pub returns : goal.returns
returns c = image-made _ _ c.requires c.u16_at.ensures c.u16_at-2.ensures c.u16_at-3.ensures
