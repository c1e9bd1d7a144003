-- `hunt::follow` meets its contract. The invariant: what was read is a stream, counted as far as it goes, and the hunter holds what waits of it.
-- The measure is how far it is from a number that no run comes to. Assumes nothing.
use mathlib.Core.Path.{sym}
use native.Mathlib.Omega.{arith}
use borrow.Author.Rules.{rules}
use lib.Seq.{length-take-le}
use Rattle.hunt.proofs.Counting.{Following, first, more, further, no_more}
use Rattle.hunt.proofs.follow.Goals as goal
use Rattle.hunt.proofs.follow.Goals.{After-feed-g}

-- a portion more
onward : (c : After-feed-g)
    → Following
    c.args.h.k
    c.feed-g.result.hunter
    (more c.loop-all.all c.read_some-n.result c.feed-g.result.frames c.feed-g.result.hunter.waiting)
onward c =
    let d = c.feed-g.ensures in
    further c.loop-all.invariant.0 _ _ d.hunter_value d.frames_value c.requires.0.limit c.loop-all.invariant.2 (sym (length-take-le _ _ c.read_some-n.ensures))

pub loop-all-init : goal.loop-all-init
loop-all-init c = (first c.requires.0, search rules, search rules, search rules)

pub returns-then-n-eq0 : goal.returns-then-n-eq0
returns-then-n-eq0 c = c.loop-all.invariant.0.tallied

pub overflow_add-all-in-loop-all : goal.overflow_add-all-in-loop-all
overflow_add-all-in-loop-all c = omega (arith, no_more (onward (goal.at.overflow_add-all-in-loop-all c).After-feed-g).tallied)

pub loop-all-preserved : goal.loop-all-preserved
loop-all-preserved c = (onward (goal.at.loop-all-preserved c).After-feed-g, search rules, search rules, search rules)

pub returns : goal.returns
returns c = c.loop-all.invariant.0.tallied
