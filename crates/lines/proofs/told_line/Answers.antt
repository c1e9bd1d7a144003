-- `lines::told_line` meets its contract. Assumes nothing.
use mathlib.Core.List.{flat_map}
use borrow.Author.Rules.{rules}
use Rattle.text.proofs.Following.{behind, nothing}
use Rattle.lines.proofs.told_line.Goals as goal

pub returns : goal.returns
unfolding flat_map
returns c =
    let two = behind c.number-fourth.ensures.1 (behind c.number-last.ensures.1 (nothing _ _)) in
    let four = behind c.number-second.ensures.1 (behind c.number-third.ensures.1 two) in
    (search rules, behind (behind c.with_number-first.ensures.1 four) c.line_end.ensures.1)
