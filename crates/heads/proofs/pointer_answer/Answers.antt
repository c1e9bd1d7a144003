-- `heads::pointer_answer` meets its contract, by what the pointer means. Assumes nothing.
use mathlib.Core.Path.{sym, ◌∙◌}
use borrow.Author.Rules.{rules}
use Rattle.text.proofs.Following.{behind}
use Rattle.heads.specs.Heads.{meaning_text}
use Rattle.heads.proofs.pointer_answer.Goals as goal

pub returns-in-Offset : goal.returns-in-Offset
unfolding meaning_text
returns-in-Offset c = (
  search rules,
  rw (sym c.meaning.ensures ∙ c.in-Offset.is)
      (behind c.number-end.ensures.1 c.with_number.ensures.1),
)

pub returns-in-NoStart : goal.returns-in-NoStart
unfolding meaning_text
returns-in-NoStart c = (
  search rules,
  rw (sym c.meaning.ensures ∙ c.in-NoStart.is)
      (behind c.number-end.ensures.1 c.word.ensures),
)

pub returns-in-Refused : goal.returns-in-Refused
unfolding meaning_text
returns-in-Refused c = (
  search rules,
  rw (sym c.meaning.ensures ∙ c.in-Refused.is)
      (behind c.number-end.ensures.1 c.word-in-Refused.ensures),
)
