-- `crc::table` meets its contract: the one computed test of the tables. antt runs over each constant of the source and compares its entries, one by
-- one, with what the rule gives. Assumes nothing.
use mathlib.Core.Path.{◌≡◌, refl}
use native.Mathlib.Omega.{arith}
use Rattle.octets.proofs.Table.{right, table-right}
use Rattle.crc.specs.Crc.{bit, shifted, octet, crc_from}
use Rattle.crc.proofs.table.Goals as goal

pub returns-in-0 : goal.returns-in-0
unfolding right crc_from octet shifted bit
returns-in-0 c = rw c.in-0.is (table-right _ 256 _ refl refl)

pub returns-in-1 : goal.returns-in-1
unfolding right crc_from octet shifted bit
returns-in-1 c = rw c.in-1.is (table-right _ 256 _ refl refl)

pub returns-in-2 : goal.returns-in-2
unfolding right crc_from octet shifted bit
returns-in-2 c = rw c.in-2.is (table-right _ 256 _ refl refl)

pub returns-in_default : goal.returns-in_default
unfolding right crc_from octet shifted bit
returns-in_default c =
    let last : c.args.zeros ≡ 3 = omega arith in
    rw last (table-right _ 256 _ refl refl)
