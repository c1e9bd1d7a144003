-- `not_set_up` meets its contract, by those of `zero` and `say`. Assumes nothing.
use Rattle.station.proofs.not_set_up.Goals as goal

pub returns : goal.returns
returns c = rw (c.say.ensures, c.zero.ensures)
