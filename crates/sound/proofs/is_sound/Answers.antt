-- `is_sound` meets its contract: a state is the state of its parts. Assumes nothing.
use Rattle.sound.proofs.is_sound.Goals as goal

pub returns : goal.returns
returns c = rw (c.are_parts_sound.ensures, c.head-head.ensures)
