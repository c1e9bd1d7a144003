-- `Noise::table` meets its contract: the one computed test of the table. antt makes one period by the rule and compares it, octet by octet,
-- with the constant of the source. Assumes nothing.
use Rattle.noise.proofs.Rule.{next, later, octets, by-rule}
use Rattle.noise.proofs.Noise.table.Goals as goal

pub returns : goal.returns
unfolding octets later next
returns c = by-rule
