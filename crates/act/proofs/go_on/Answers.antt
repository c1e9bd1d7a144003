-- `act::go_on` meets its contract: the slot has a block for the packet. Assumes nothing.
use mathlib.Core.Path.{refl, ◌∙◌}
use native.Mathlib.Omega.{arith}
use Rattle.act.proofs.Writing.{blocks-few}
use Rattle.act.proofs.go_on.Goals as goal

pub overflow_add-x : goal.overflow_add-x
overflow_add-x c =
    omega (arith, c.requires.place_in_bounds.0, blocks-few c.args.blocks c.args.owner.now c.args.k)

pub returns : goal.returns
returns c =
    let e = c.emit-events.ensures in
    let w = c.write.ensures in
    record {
      slots_value = refl;
      store_after = w;
      events_value = (e.value, e.list_after ∙ rw c.next_event.ensures);
    }
