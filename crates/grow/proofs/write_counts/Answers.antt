-- `grow::write_counts` meets its contract: the loop writes each channel that has files. Assumes nothing.
use mathlib.Core.Path.{refl}
use native.Mathlib.Omega.{arith}
use Rattle.grow.proofs.Writing.{noting, note-skip, note-room, note-more, note-end}
use Rattle.grow.proofs.write_counts.Goals as goal

pub loop-c-init : goal.loop-c-init
loop-c-init c = noting 63 _ _ _ c.requires

pub loop-c-preserved-then-counts-c-eq0 : goal.loop-c-preserved-then-counts-c-eq0
loop-c-preserved-then-counts-c-eq0 c = note-skip c.loop-c.invariant (omega arith) c.if-counts-c-eq0.true

pub write_row-requires : goal.write_row-requires
write_row-requires c =
    (refl, omega (arith, note-room c.loop-c.invariant (omega arith) c.if-counts-c-eq0.false))

pub loop-c-preserved : goal.loop-c-preserved
loop-c-preserved c =
    note-more c.loop-c.invariant (omega arith) c.if-counts-c-eq0.false c.write_row.ensures

pub shape_of-dst : goal.shape_of-dst
shape_of-dst c = c.loop-c.invariant.long

pub returns : goal.returns
returns c = note-end c.loop-c.invariant (omega arith)
