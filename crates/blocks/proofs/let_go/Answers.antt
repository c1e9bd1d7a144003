-- `blocks::let_go` meets its contract: the blocks that became free are those of the slot. Assumes nothing.
use Rattle.room.proofs.Given.{is-let_go}
use Rattle.blocks.proofs.let_go.Goals as goal

pub returns : goal.returns
returns c = is-let_go _ _ _ c.none.ensures c.free_blocks.ensures
