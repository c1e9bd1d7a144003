-- `blocks::free_blocks` meets its contract. The invariant: what is left to free, in the table as it is, gives the table promised. Assumes nothing.
use native.Mathlib.Omega.{arith}
use Rattle.room.proofs.Given.{freeing-first, freeing-on, freeing-all}
use Rattle.blocks.proofs.free_blocks.Goals as goal

pub loop-b-init : goal.loop-b-init
loop-b-init c = freeing-first _ _ _ 4096 c.requires.1 c.requires.0

pub loop-b-preserved : goal.loop-b-preserved
loop-b-preserved c = freeing-on c.loop-b.invariant (omega arith) c.kept.ensures

pub returns : goal.returns
returns c = freeing-all c.loop-b.invariant (omega arith)
