-- `whole_blocks` meets its contract, test after test. Assumes nothing.
use mathlib.Core.Bool.{and-false}
use Prim.Native.Nat.{◌/◌, ◌≤◌}
use native.Mathlib.Omega.{arith}
use borrow.Author.Tests.{le-leb, eq-eqb, ne_eqb}
use lib.ListN.{length}
use Rattle.station.proofs.whole_blocks.Goals as goal

pub returns-then-store-ne0 : goal.returns-then-store-ne0
returns-then-store-ne0 c = rw (ne_eqb _ _ c.if-store-ne0.true)

pub returns-then-blocks-eq0 : goal.returns-then-blocks-eq0
returns-then-blocks-eq0 c = rw (c.if-blocks-eq0.true, and-false)

pub returns : goal.returns
returns c =
    let one : 1 ≤ length c.args.store.now / 8190 = omega arith in
    rw (eq-eqb _ _ c.if-store-ne0.false, le-leb _ _ one)
