-- `octets::copy` meets its contract: the part that is lent holds src afterwards. Assumes nothing.
use native.Mathlib.Omega.{arith}
use Rattle.octets.proofs.Put.{put_lent}
use Rattle.octets.proofs.copy.Goals as goal

pub returns : goal.returns
returns c = put_lent c.args.src.now _ c.args.at _ c.copy_from_slice.ensures.after (omega arith) (omega arith)
