-- A signed number of 32 bits, as it comes back from its bits. Assumes nothing.
use mathlib.Core.Path.{◌≡◌}
use Prim.Native.Nat.{◌^◌, ◌<◌}
use lib.IntN.{ℤ}
use lib.Signed.{mag}
use mir.Facts.{to_z-of_z}
use mir.Syntax.{w32}
use mir.Val.{SFits, hbits, to_z, of_z}

-- a field of a struct: its range is told beside it
pub same-field : (z : ℤ) → mag z < 2 ^ hbits w32 → to_z w32 (of_z w32 z) ≡ z
same-field z h = let f : SFits w32 z = record { sfits = h } in to_z-of_z f
