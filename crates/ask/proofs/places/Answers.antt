-- `places` meets its contract: what is not found is refused. Assumes nothing.
use Rattle.std.specs.Prelude.{Option, ok_or}
use mathlib.Core.Path.{ap, ◌∙◌}
use Rattle.catalogue.specs.declared.Places.{Places}
use Rattle.ask.proofs.places.Goals as goal

pub returns : goal.returns
returns c = c.ok_or.ensures.value ∙ ap (λ (x : Option Places). ok_or x (record { 0 = 31 })) c.find.ensures
