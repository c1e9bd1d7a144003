-- `vectors::answers::answer_to` meets its contract. Assumes nothing.
use borrow.Author.Rules.{rules}
use borrow.Author.Tests.{ne_eqb}
use Rattle.vectors.specs.Answers.{answer_to}
use Rattle.vectors.proofs.answers.answer_to.Goals as goal

pub returns-in-78 : goal.returns-in-78
unfolding answer_to
returns-in-78 c = rw c.in-78.is c.noise_answer.ensures

pub returns-in-67 : goal.returns-in-67
unfolding answer_to
returns-in-67 c = rw c.in-67.is c.crc_answer.ensures

pub returns-in-70 : goal.returns-in-70
unfolding answer_to
returns-in-70 c = rw c.in-70.is c.frame_answer.ensures

pub returns-in-80 : goal.returns-in-80
unfolding answer_to
returns-in-80 c = rw c.in-80.is c.packet_answer.ensures

pub returns-in-76 : goal.returns-in-76
unfolding answer_to
returns-in-76 c = rw c.in-76.is c.length_answer.ensures

pub returns-in-83 : goal.returns-in-83
unfolding answer_to
returns-in-83 c = rw c.in-83.is c.shape_answer.ensures

pub returns-in-87 : goal.returns-in-87
unfolding answer_to
returns-in-87 c = rw c.in-87.is c.counter_answer.ensures

pub returns-in-72 : goal.returns-in-72
unfolding answer_to
returns-in-72 c = rw c.in-72.is c.header_answer.ensures

pub returns-in-82 : goal.returns-in-82
unfolding answer_to
returns-in-82 c = rw c.in-82.is c.numbered_answer.ensures

pub returns-in_default : goal.returns-in_default
unfolding answer_to
returns-in_default c = search (rules, ne_eqb)
