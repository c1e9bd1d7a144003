use mathlib.Core.Logic.{⊎_elim}
use native.Mathlib.Omega.{arith}
use Rattle.sections.proofs.Growing.{writing, write-room, write-more, write-end}
use Rattle.sections.proofs.write_row.Goals as goal

pub loop-width-init : goal.loop-width-init
loop-width-init c =
    let zip = c.zip-width-items.ensures in
    rw (c.into_iter-width-iterator.ensures.into_iter_gives, zip.first, c.iter.ensures.rest, zip.second.0) (writing _ _ _ _ c.requires.0 c.requires.1)

pub store-requires : goal.store-requires
store-requires c = write-room c.loop-width.invariant c.in-Some.ensures.steps.0

pub overflow_add-p : goal.overflow_add-p
overflow_add-p c = omega (arith, write-room c.loop-width.invariant c.in-Some.ensures.steps.0)

pub loop-width-preserved : goal.loop-width-preserved
loop-width-preserved c =
    let step = c.in-Some.ensures.steps in
    write-more c.loop-width.invariant step.0 step.1 c.store.ensures

pub returns : goal.returns
returns c =
    let left = c.loop-width.invariant in
    write-end left (⊎_elim (λ a. a.1.0) (λ b. omega (arith, b.1.0, left.same)) c.in-None.ensures.steps)
