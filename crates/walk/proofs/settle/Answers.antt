-- `walk::settle` blanks the desk and puts there what is held, by the two ends of a walk. Assumes nothing.
use Rattle.walk.proofs.Ends.{settles-bad, settles-left}
use Rattle.walk.proofs.settle.Goals as goal

pub returns-then-bad : goal.returns-then-bad
returns-then-bad c =
    let told = c.emit-m.ensures in
    settles-bad c.if-bad.true c.blank.ensures told.value told.list_after

pub returns : goal.returns
returns c =
    settles-left c.if-bad.false c.requires.frame c.blank.ensures c.copy.ensures _
