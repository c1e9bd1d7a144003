-- `crc::by_tables` meets its contract. The loop's invariant: what is wanted is what the octets that are left make of the register.
-- Assumes nothing.
use mathlib.Core.Path.{◌≡◌}
use Prim.Native.Nat.{◌*◌, ◌<◌}
use lib.ListN.{drop}
use Rattle.crc.specs.Crc.{crc_from}
use Rattle.crc.proofs.by_tables.Given as goal

abbrev pub invariant-loop-k : goal.invariant-loop-k
invariant-loop-k l = (l.c < 0x10000) × (crc_from l.register l.octets ≡ crc_from l.c (drop (4 * l.k) l.octets))
