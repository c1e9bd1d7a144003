-- `grow::grow_files` meets its contract: the entry made ready, and put behind the last. Assumes nothing.
use Rattle.grow.proofs.grow_files.Goals as goal

pub returns : goal.returns
returns c = rw c.write_file.ensures at c.grow_section.ensures
