-- `judge::intact` meets its contract: the part that the code cuts out is the data, header not included. Assumes nothing.
use Rattle.judge.proofs.Parts.{intact-cut}
use Rattle.judge.proofs.intact.Goals as goal

pub returns : goal.returns
returns c = intact-cut c.args.packet.now c.crc.ensures c.u16_at.ensures
