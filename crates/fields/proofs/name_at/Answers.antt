-- `fields::name_at` meets its contract. Assumes nothing.
use Rattle.records.proofs.Naming.{name-copied}
use Rattle.fields.proofs.name_at.Goals as goal

pub returns : goal.returns
returns c = name-copied _ _ c.requires c.copy.ensures
