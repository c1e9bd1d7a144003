-- `enter::enter_at` meets its contract: 34, or the sections written. Assumes nothing.
use mathlib.Core.Path.{◌≡◌}
use native.Mathlib.Omega.{arith}
use lib.ListN.{length, take}
use Rattle.catalogue.specs.Reading.{Ready}
use Rattle.catalogue.specs.Entering.{entered}
use Rattle.enter.proofs.Settling.{few-at, files-ready, is-ready, is-size, is-short, is-entered}
use Rattle.enter.proofs.enter_at.Goals as goal
use Rattle.enter.proofs.enter_at.Goals.{After-counts_with-counts, After-size_with-size}

-- the counts make it ready
ready : (c : After-counts_with-counts) → let a = c.args in Ready a.buffer.now a.used a.at a.e c.counts_with-counts.result
ready c =
    let p = c.requires in
    is-ready p.0 c.args.e p.1 p.2 c.counts_with-counts.ensures

sized : (c : After-size_with-size) → let a = c.args in c.size_with-size.result ≡ length (entered (take a.used a.buffer.now) a.e)
sized c = is-size (ready (goal.at.After-size_with-size c).After-counts_with-counts) (λ i. (c.slice_known-1.given i).fits) c.size_with-size.ensures

pub counts_with-counts-requires : goal.counts_with-counts-requires
counts_with-counts-requires c =
    files-ready c.requires.0 (λ i. (c.slice_known-1.given i).fits) c.args.e c.requires.2

pub size_with-size-requires : goal.size_with-size-requires
size_with-size-requires c = (few-at c.requires.0 (λ i. (c.slice_known-1.given i).fits)).1

pub returns-then-buffer-size : goal.returns-then-buffer-size
returns-then-buffer-size c = is-short (ready (goal.at.returns-then-buffer-size c).After-counts_with-counts) (sized (goal.at.returns-then-buffer-size c).After-size_with-size) (omega arith)

pub append-requires : goal.append-requires
append-requires c = (ready (goal.at.append-requires c).After-counts_with-counts, omega (arith, sized (goal.at.append-requires c).After-size_with-size))

pub returns : goal.returns
returns c =
    is-entered (ready (goal.at.returns c).After-counts_with-counts) (sized (goal.at.returns c).After-size_with-size) (omega arith) c.append.ensures
