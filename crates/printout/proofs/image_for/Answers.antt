-- `printout::image_for` meets its contract. Assumes nothing.
use native.Mathlib.Omega.{arith}
use Rattle.printout.proofs.Taking.{image-none, image-other, image-this}
use Rattle.printout.proofs.image_for.Goals as goal

pub returns-then-j-at : goal.returns-then-j-at
returns-then-j-at c = image-none c.requires.0 c.args.i c.args.j (omega arith)

pub returns-then-e-i : goal.returns-then-e-i
returns-then-e-i c = image-other c.requires.0 c.args.i c.args.j (omega arith) c.image_entry-e.ensures (omega arith)

pub returns : goal.returns
returns c = image-this c.requires.0 c.args.i c.args.j (omega arith) c.image_entry-e.ensures (omega arith)
