-- `blocks::open_file` meets its contract: the blocks of owner 0 that go to the slot are the lowest free ones. Assumes nothing.
use Rattle.room.proofs.Given.{is-opened}
use Rattle.blocks.proofs.open_file.Goals as goal

pub returns : goal.returns
returns c = is-opened _ _ _ _ c.need.ensures c.move_blocks.ensures
