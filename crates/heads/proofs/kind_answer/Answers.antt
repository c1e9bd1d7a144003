-- `heads::kind_answer` meets its contract. Assumes nothing.
use borrow.Author.Rules.{rules}
use Rattle.heads.specs.Heads.{kind_text}
use Rattle.heads.proofs.kind_answer.Goals as goal

pub returns-in-File : goal.returns-in-File
unfolding kind_text
returns-in-File c = (search rules, rw c.in-File.is c.word.ensures)

pub returns-in-Other : goal.returns-in-Other
unfolding kind_text
returns-in-Other c = (search rules, rw c.in-Other.is c.word-in-Other.ensures)

pub returns-in-Fill : goal.returns-in-Fill
unfolding kind_text
returns-in-Fill c = (search rules, rw c.in-Fill.is c.word-in-Fill.ensures)
