-- `act::end_file` meets its contract, by its two calls. Assumes nothing.
use Rattle.act.proofs.end_file.Goals as goal

pub returns : goal.returns
returns c = record {
  slots_after = c.let_go-after.ensures;
  events_value = (c.emit-events.ensures.value, c.emit-events.ensures.list_after);
}
