-- `grow::append` meets its contract: the sections from the last to the first. Assumes nothing.
use native.Mathlib.Omega.{arith}
use Rattle.octets.specs.Number.{Octets}
use Rattle.grow.proofs.Growing.{Room, ready-room, ready-by-sections}
use Rattle.grow.proofs.append.Goals as goal
use Rattle.grow.proofs.append.Goals.{Start}

-- what is known at the start
room : (c : Start) → Octets c.args.buffer.now → let a = c.args in Room a.buffer.now a.at a.e a.counts
room c o = ready-room c.requires.0 o c.requires.1

pub overflow_add-at : goal.overflow_add-at
overflow_add-at c = omega (arith, room (goal.at.overflow_add-at c).Start (λ i. (c.slice_known-1.given i).fits))

pub overflow_add-at-2 : goal.overflow_add-at-2
overflow_add-at-2 c = omega (arith, room (goal.at.overflow_add-at-2 c).Start (λ i. (c.slice_known-1.given i).fits))

pub write_channels-requires : goal.write_channels-requires
write_channels-requires c = omega (arith, room (goal.at.write_channels-requires c).Start (λ i. (c.slice_known-1.given i).fits))

pub grow_images-requires : goal.grow_images-requires
grow_images-requires c =
    let r = room (goal.at.grow_images-requires c).Start (λ i. (c.slice_known-1.given i).fits) in
    (c.shown-more.ensures.0, c.shown-more.ensures.1, r.fits, omega (arith, r))

pub grow_files-requires : goal.grow_files-requires
grow_files-requires c =
    let r = room (goal.at.grow_files-requires c).Start (λ i. (c.slice_known-1.given i).fits) in
    (r.few, omega (arith, r))

pub returns : goal.returns
returns c =
    ready-by-sections c.requires.0 (λ i. (c.slice_known-1.given i).fits) _ c.shown-more.ensures.0 c.write_channels.ensures
    c.grow_images.ensures c.grow_files.ensures
