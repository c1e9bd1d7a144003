-- `slots_part` meets its contract: what was copied is that part of the tally. Assumes nothing.
use Rattle.owners.proofs.slots_part.Goals as goal

pub returns : goal.returns
returns c = c.copy_from_slice.ensures.after
