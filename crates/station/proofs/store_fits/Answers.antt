-- `store_fits` meets its contract, test after test. Assumes nothing.
use mathlib.Core.Bool.{and-false}
use Prim.Native.Nat.{◌≤◌}
use native.Mathlib.Omega.{arith}
use borrow.Author.Tests.{le-leb, lt-leb}
use Rattle.station.proofs.store_fits.Goals as goal

pub returns-then-blocks-eq0 : goal.returns-then-blocks-eq0
returns-then-blocks-eq0 c = rw c.if-blocks-eq0.true

pub returns-then-blocks-gt-MOST_BLOCKS : goal.returns-then-blocks-gt-MOST_BLOCKS
returns-then-blocks-gt-MOST_BLOCKS c = rw (lt-leb _ _ c.if-blocks-gt-MOST_BLOCKS.true, and-false)

pub returns : goal.returns
returns c =
    let one : 1 ≤ c.args.blocks = omega arith in
    rw (le-leb _ _ one, le-leb _ _ c.if-blocks-gt-MOST_BLOCKS.false)
