-- `vectors::end_line` meets its contract. Assumes nothing.
use mathlib.Core.Path.{sym}
use borrow.Author.Tests.{eq-eqb, ne_eqb}
use Rattle.octets.proofs.Put.{put-nil}
use Rattle.text.proofs.Following.{behind}
use Rattle.vectors.specs.Kept.{printed}
use Rattle.vectors.proofs.end_line.Goals as goal

pub returns-then-held-eq0 : goal.returns-then-held-eq0
unfolding printed
returns-then-held-eq0 c = rw (eq-eqb _ _ c.if-held-eq0.true) (sym (put-nil _ 0))

pub returns-then-line-eq35 : goal.returns-then-line-eq35
unfolding printed
returns-then-line-eq35 c = rw (ne_eqb _ _ c.if-held-eq0.false, eq-eqb _ _ c.if-line-eq35.true) (sym (put-nil _ 0))

pub returns : goal.returns
unfolding printed
returns c =
    rw (ne_eqb _ _ c.if-held-eq0.false, ne_eqb _ _ c.if-line-eq35.false)
    (behind c.answer-last.ensures.1 c.line_end-end.ensures.1).holds
