-- `act::open_events` meets its contract: one event, or two. Assumes nothing.
use Rattle.act.proofs.Telling.{told-first, told-whole}
use Rattle.act.proofs.open_events.Goals as goal

pub returns-then-flags-eq-WHOLE : goal.returns-then-flags-eq-WHOLE
returns-then-flags-eq-WHOLE c =
    let m = c.emit-m.ensures in
    let l = c.emit.ensures in
    let told = told-whole _ _ _ _ _ m.value m.list_after c.if-flags-eq-WHOLE.true l.value l.list_after in
    record { value = told.0; list_after = told.1 }

pub returns-else-flags-eq-WHOLE : goal.returns-else-flags-eq-WHOLE
returns-else-flags-eq-WHOLE c =
    let m = c.emit-m.ensures in
    let told = told-first _ _ _ _ _ m.value m.list_after c.if-flags-eq-WHOLE.false in
    record { value = told.0; list_after = told.1 }
