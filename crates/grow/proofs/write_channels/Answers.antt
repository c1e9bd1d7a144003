-- `grow::write_channels` meets its contract: its count, then its entries. Assumes nothing.
use Rattle.grow.proofs.Writing.{channels-made}
use Rattle.grow.proofs.write_channels.Goals as goal

pub returns : goal.returns
returns c =
    channels-made _ _ _ _ c.spoken.ensures.0 c.store.ensures c.write_counts.ensures
