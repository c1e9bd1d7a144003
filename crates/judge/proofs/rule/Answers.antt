-- `judge::rule` meets its contract: the kind of the packet, its check, then its file. Assumes nothing.
use native.Mathlib.Omega.{arith}
use Rattle.octets.proofs.Tests.{denied, granted}
use Rattle.judge.proofs.Parts.{data-cut}
use Rattle.judge.proofs.Reading.{read-application, read-checked}
use Rattle.judge.proofs.Rulings.{ruling-fill, ruling-other, ruling-damaged, ruling-file}
use Rattle.judge.proofs.rule.Goals as goal

pub returns-then-h-eq-FILL : goal.returns-then-h-eq-FILL
returns-then-h-eq-FILL c = ruling-fill _ _ _ _ c.requires.1 (omega arith)

pub returns-then-h-gt-LAST_FILE : goal.returns-then-h-gt-LAST_FILE
returns-then-h-gt-LAST_FILE c =
    ruling-other _ _ _ _ c.requires.1 (omega arith) (omega (arith, read-application c.requires.0 c.requires.1))

pub intact-requires : goal.intact-requires
intact-requires c =
    omega (arith, read-checked c.requires.0 c.requires.1 (omega arith))

pub returns-then-not-intact : goal.returns-then-not-intact
returns-then-not-intact c =
    ruling-damaged _ _ _ _ c.requires.1 (omega arith) (search denied)

pub slice_bounds-rule_file-count : goal.slice_bounds-rule_file-count
slice_bounds-rule_file-count c =
    omega (arith, read-checked c.requires.0 c.requires.1 (omega arith))

pub slice_bounds-rule_file-start : goal.slice_bounds-rule_file-start
slice_bounds-rule_file-start c =
    omega (arith, read-checked c.requires.0 c.requires.1 (omega arith))

pub returns : goal.returns
returns c =
    ruling-file _ _ _ _ c.requires.1 (omega arith) (search granted) (rw data-cut at c.rule_file.ensures)
