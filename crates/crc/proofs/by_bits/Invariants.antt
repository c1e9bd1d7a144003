-- `crc::by_bits` meets its contract. The loop's invariant: what is wanted is what the octets that are left make of the register.
-- Assumes nothing.
use mathlib.Core.Path.{◌≡◌}
use lib.ListN.{drop}
use Rattle.crc.specs.Crc.{crc_from}
use Rattle.crc.proofs.by_bits.Given as goal

abbrev pub invariant-loop-x : goal.invariant-loop-x
invariant-loop-x l = crc_from l.register l.octets ≡ crc_from l.c (drop l.x-index l.octets)
