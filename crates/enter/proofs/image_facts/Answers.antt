-- `image_facts` meets its contract where there is no segment record: zeros. Assumes nothing.
use mathlib.Core.Path.{sym, ap₂}
use Rattle.catalogue.specs.Entering.{image_facts}
use Rattle.enter.proofs.image_facts.Goals as goal

pub returns-in-None : goal.returns-in-None
returns-in-None c = sym (ap₂ image_facts c.in_ok-i.was c.in-None.is)
