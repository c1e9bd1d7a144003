-- `vectors::answers::packet_answer` meets its contract. Assumes nothing.
use Rattle.vectors.proofs.answers.packet_answer.Goals as goal

pub returns : goal.returns
returns c = rw (← c.look_at.ensures) c.packet_answer.ensures
