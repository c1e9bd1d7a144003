-- `crc::octet` meets its contract. The loop's invariant: what is wanted is what the bits that are left make of the register.
-- Assumes nothing.
use mathlib.Core.Path.{◌≡◌}
use Prim.Native.Nat.{◌-◌}
use Rattle.crc.specs.Crc.{shifted, octet}
use Rattle.crc.proofs.octet.Given as goal

abbrev pub invariant-loop : goal.invariant-loop
invariant-loop l = octet l.c l.x ≡ shifted (8 - l.counter) l.r
