-- `enter::counts_with` meets its contract: a tally and one more. Assumes nothing.
use mathlib.Core.Path.{sym}
use native.Mathlib.Omega.{arith}
use lib.ListN.{drop}
use Rattle.sections.specs.Sections.{entries}
use Rattle.sections.proofs.Parts.{length-entries}
use Rattle.catalogue.specs.Catalogue.{file_widths}
use Rattle.grow.proofs.Entering.{tallied-append, tallied-small}
use Rattle.enter.proofs.counts_with.Goals as goal

pub overflow_add-counts : goal.overflow_add-counts
overflow_add-counts c =
    let a = c.args in
    let rs = entries file_widths a.n (drop 2 a.s.now) in
    let small = tallied-small rs a.channel c.requires.2 in
    let long = length-entries file_widths a.n (drop 2 a.s.now) in
    rw c.tally-counts.ensures (omega (arith, small, long))

pub returns : goal.returns
returns c = rw c.tally-counts.ensures (sym (tallied-append _ _ _))
