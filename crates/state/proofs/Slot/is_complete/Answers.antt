-- `Slot::is_complete` meets its contract, by the contracts of `is_held` and `need`. Assumes nothing.
use Rattle.state.specs.Slots.{complete}
use Rattle.state.proofs.Slot.is_complete.Goals as goal

pub returns-then-is_held : goal.returns-then-is_held
unfolding complete
returns-then-is_held c = rw (← c.is_held.ensures, c.if-is_held.true, ← c.need.ensures)

pub returns-else-is_held : goal.returns-else-is_held
unfolding complete
returns-else-is_held c = rw (← c.is_held.ensures, c.if-is_held.false)
