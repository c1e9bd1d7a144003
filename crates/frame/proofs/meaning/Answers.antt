-- `meaning` meets its contract: each way out is a case of the pointer's meaning. Assumes nothing.
use mathlib.Core.Path.{sym}
use Rattle.frame.proofs.Pointers.{below-offset, no_start, else-refused}
use Rattle.frame.proofs.meaning.Goals as goal

pub returns-then-pointer-lt-ZONE : goal.returns-then-pointer-lt-ZONE
returns-then-pointer-lt-ZONE c = sym (below-offset _ c.if-pointer-lt-ZONE.true)

pub returns-then-pointer-eq-NO_START : goal.returns-then-pointer-eq-NO_START
returns-then-pointer-eq-NO_START c = sym (no_start _ c.if-pointer-eq-NO_START.true)

pub returns : goal.returns
returns c = sym (else-refused _ c.if-pointer-lt-ZONE.false c.if-pointer-eq-NO_START.false)
