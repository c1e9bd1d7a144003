use native.Mathlib.Omega.{arith}
use borrow.Author.Tests.{le-leb, lt-leb}
use Rattle.stream.specs.Hunter.{begun_by, holding}
use Rattle.stream.proofs.begin.Goals as goal

pub returns-then-k-le-MOST : goal.returns-then-k-le-MOST
unfolding begun_by holding
returns-then-k-le-MOST c = rw (le-leb c.args.k 3 (omega arith))

pub returns : goal.returns
unfolding begun_by holding
returns c = rw (lt-leb c.args.k 3 (omega arith))
