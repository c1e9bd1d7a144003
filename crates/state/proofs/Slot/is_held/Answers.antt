-- `Slot::is_held` meets its contract, by its test. Assumes nothing.
use borrow.Author.Rules.{rules}
use Rattle.state.specs.Slots.{held}
use Rattle.state.proofs.Slot.is_held.Goals as goal

pub returns : goal.returns
unfolding held
returns c = search rules
