-- `good_facts` meets its contract: the first two tests leave the last. Assumes nothing.
use native.Mathlib.Omega.{arith}
use Rattle.enter.proofs.Settling.{good-so}
use Rattle.enter.proofs.good_facts.Goals as goal

pub returns-then-f-le-LAST_FILE : goal.returns-then-f-le-LAST_FILE
returns-then-f-le-LAST_FILE c = good-so c.args.e (omega arith) (omega arith)
