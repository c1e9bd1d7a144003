-- `records::type_length` meets its contract. Assumes nothing.
use mathlib.Core.Path.{sym, ap}
use native.Mathlib.Omega.{arith}
use Rattle.records.specs.Table.{fixed_types, length_of}
use Rattle.records.proofs.type_length.Goals as goal

pub returns-in-0 : goal.returns-in-0
unfolding length_of
returns-in-0 c = ap (length_of fixed_types) (sym c.in-0.is)

pub returns-in-1 : goal.returns-in-1
unfolding length_of
returns-in-1 c = ap (length_of fixed_types) (sym c.in-1.is)

pub returns-in-2 : goal.returns-in-2
unfolding length_of
returns-in-2 c = ap (length_of fixed_types) (sym c.in-2.is)

pub returns-in-5 : goal.returns-in-5
unfolding length_of
returns-in-5 c = ap (length_of fixed_types) (sym c.in-5.is)

pub returns-in-128 : goal.returns-in-128
unfolding length_of
returns-in-128 c = ap (length_of fixed_types) (sym c.in-128.is)

pub returns-in_default : goal.returns-in_default
unfolding length_of
returns-in_default c = grind arith
