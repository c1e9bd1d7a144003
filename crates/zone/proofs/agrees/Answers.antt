-- `zone::agrees` is the definition of the same name, by what the pointer says. Assumes nothing.
use mathlib.Core.Path.{sym, ap}
use borrow.Author.Rules.{rules}
use Rattle.zone.specs.Zone.{agrees}
use Rattle.zone.proofs.agrees.Goals as goal

pub returns-in-Offset : goal.returns-in-Offset
unfolding agrees
returns-in-Offset c = sym (ap (agrees c.args.lacked) c.in-Offset.is)

pub returns-in-NoStart : goal.returns-in-NoStart
unfolding agrees
returns-in-NoStart c =
    let i = c.args in
    sym (ap (agrees i.lacked) c.in-NoStart.is)

pub returns-in-Refused : goal.returns-in-Refused
unfolding agrees
returns-in-Refused c = search rules
