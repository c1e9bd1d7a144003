-- `grow::grow_images` meets its contract: the entry made ready, and put behind the last. Assumes nothing.
use Rattle.grow.proofs.Writing.{image-part}
use Rattle.grow.proofs.grow_images.Goals as goal

pub returns : goal.returns
returns c =
    rw (image-part c.args.image c.args.more c.write_image.new.dst c.requires.0 c.write_image.ensures)
    at c.grow_section.ensures
