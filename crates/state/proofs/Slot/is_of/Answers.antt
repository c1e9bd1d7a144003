-- `Slot::is_of` meets its contract: of one application, the channels decide. Assumes nothing.
use mathlib.Core.Path.{sym}
use mathlib.Core.Bool.{and-true, and-false}
use Rattle.state.specs.Slots.{of_pair}
use Rattle.state.proofs.Slot.is_of.Goals as goal

pub returns-then-eq : goal.returns-then-eq
unfolding of_pair
returns-then-eq c = rw (c.eq-then-eq.ensures, ← c.if-eq.ensures) (sym (and-true _))

pub returns-else-eq : goal.returns-else-eq
unfolding of_pair
returns-else-eq c = rw (c.eq.ensures, ← c.if-eq.ensures) (sym (and-false _))
