-- `drive::carry_out` meets its contract. Assumes nothing.
use native.Mathlib.Omega.{arith}
use borrow.Author.Rules.{rules}
use borrow.Author.Tests.{ne_eqb}
use Rattle.text.proofs.Following.{nothing}
use Rattle.script.specs.Memory.{poked_by}
use Rattle.drive.specs.Calls.{was_let_go, carried_out}
use Rattle.drive.specs.Printed.{printed}
use Rattle.drive.proofs.carry_out.Goals as goal

pub returns-in-82-clause-store_after : goal.returns-in-82-clause-store_after
unfolding carried_out poked_by
returns-in-82-clause-store_after c = let kept = c.read_file.ensures.by_index c.args.desks.now c.args.store.now in search rules

pub returns-in-82-clause-end_bound : goal.returns-in-82-clause-end_bound
unfolding printed
returns-in-82-clause-end_bound c = (omega (arith, c.read_file.ensures.end_bound.0), let told = c.read_file.ensures.end_bound.1 c.args.desks.now in search rules)

pub returns-in-76-clause-store_after : goal.returns-in-76-clause-store_after
unfolding carried_out was_let_go
returns-in-76-clause-store_after c = let after = c.let_file_go.ensures.by_index c.args.desks.now c.args.store.now in search rules

pub returns-in-73-clause-store_after : goal.returns-in-73-clause-store_after
unfolding carried_out poked_by
returns-in-73-clause-store_after c = let kept = c.tell_file.ensures.by_index c.args.desks.now c.args.store.now in search rules

pub returns-in-73-clause-end_bound : goal.returns-in-73-clause-end_bound
unfolding printed
returns-in-73-clause-end_bound c = (omega (arith, c.tell_file.ensures.end_bound.0), let told = c.tell_file.ensures.end_bound.1 c.args.desks.now in search rules)

pub returns-in-72-clause-store_after : goal.returns-in-72-clause-store_after
unfolding carried_out poked_by
returns-in-72-clause-store_after c = let kept = c.show_lent.ensures.by_index c.args.desks.now c.args.store.now in search rules

pub returns-in_default-clause-end_bound : goal.returns-in_default-clause-end_bound
unfolding printed
returns-in_default-clause-end_bound c =
    let e = c.poke.ensures.end_value in
    (omega (arith, e), rw e (search (rules, ne_eqb, nothing c.args.out.now 0)))
