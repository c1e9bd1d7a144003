-- `hunt::run` meets its contract. Assumes nothing.
use mathlib.Core.Path.{◌∙◌, ap}
use native.Mathlib.Omega.{arith}
use borrow.Author.Rules.{rules}
use Rattle.stream.specs.Hunter.{begun_by}
use Rattle.hunt.specs.Words.{chosen_by}
use Rattle.hunt.proofs.Counting.{BegunWith, begun-well, begun-ill, no_more, tells, tells-15}
use Rattle.hunt.proofs.run.Goals as goal
use Rattle.hunt.proofs.run.Goals.{Else-b-ne0, Start}

abbrev start : Else-b-ne0 → Start
start c = (goal.at.Else-b-ne0 c).Start

-- k was not refused
begun : (c : Else-b-ne0) → BegunWith (chosen_by (start c).args.words (start c).args.first.now) c.begin-b.result.hunter
begun c = begun-well _ (c.begin-b.ensures ∙ ap begun_by c.chosen-k.ensures) (omega arith)

pub returns-then-b-ne0 : goal.returns-then-b-ne0
returns-then-b-ne0 c =
    let ill = begun-ill _ (c.begin-b.ensures ∙ ap begun_by c.chosen-k.ensures) (omega arith) in
    tells-15 ill.0 ill.1 c.refusal.ensures

pub follow-t-requires : goal.follow-t-requires
follow-t-requires c = ((begun (goal.at.follow-t-requires c).Else-b-ne0).fresh, search rules, search rules)

pub passed_over-passed-requires : goal.passed_over-passed-requires
passed_over-passed-requires c = no_more c.follow-t.ensures

pub returns : goal.returns
returns c =
    let b = begun (goal.at.returns c).Else-b-ne0 in
    tells c.follow-t.ensures _ b.same b.fresh.limit c.passed_over-passed.ensures c.end.ensures
