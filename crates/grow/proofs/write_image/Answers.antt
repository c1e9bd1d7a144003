-- `grow::write_image` meets its contract: one entry or none. Assumes nothing.
use Rattle.grow.proofs.Writing.{no-image, an-image}
use Rattle.grow.proofs.write_image.Goals as goal

pub returns-in-None : goal.returns-in-None
returns-in-None c = no-image _ _ c.in-None.is

pub returns-in-Some : goal.returns-in-Some
returns-in-Some c = an-image _ c.in-Some.is c.write_picture.ensures
