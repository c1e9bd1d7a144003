-- `printout::entry_at` meets its contract. Assumes nothing.
use native.Mathlib.Omega.{arith}
use Rattle.printout.proofs.Taking.{entry-made}
use Rattle.printout.proofs.entry_at.Goals as goal

pub returns : goal.returns
returns c =
    entry-made c.requires.0 c.args.i c.args.j (omega arith) c.file_entry-f.ensures c.image_for.ensures
