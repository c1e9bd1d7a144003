-- `script::whole::obey` meets its contract. Assumes nothing.
use Rattle.script.proofs.whole.obey.Goals as goal

pub returns-clause-text_after : goal.returns-clause-text_after
returns-clause-text_after g c = c.carry_out-last.ensures.end_bound.1.holds
