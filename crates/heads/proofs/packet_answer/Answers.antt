-- `heads::packet_answer` meets its contract, by what stands at the start of the octets. Assumes nothing.
use borrow.Author.Rules.{rules}
use Rattle.heads.specs.Heads.{packet_text}
use Rattle.heads.proofs.packet_answer.Goals as goal

pub returns-in-Short : goal.returns-in-Short
unfolding packet_text
returns-in-Short c = (search rules, rw c.in-Short.is c.word.ensures)

pub returns-in-Bad : goal.returns-in-Bad
unfolding packet_text
returns-in-Bad c = (search rules, rw c.in-Bad.is c.word-in-Bad.ensures)
