-- A signed number of four octets is the library's. Assumes nothing.
use mathlib.Core.Path.{◌≡◌, ap, ◌∙◌}
use Prim.Native.Nat.{ℕ, ◌^◌, ◌<◌}
use borrow.Author.Tests.{lt-ltb}
use lib.IntN.{ℤ}
use mir.Facts.{of_z-to_z}
use mir.Syntax.{w32}
use mir.Val.{Fits, to_z, of_z}
use Rattle.octets.specs.Number.{signed}

pub signed-cast : (n : ℕ) {z : ℤ} → n < 2 ^ 32 → z ≡ to_z w32 n → to_z w32 (of_z w32 z) ≡ signed n
unfolding signed
signed-cast n h e =
    let fits : Fits w32 n = record { fits = h } in
    ap (λ (y : ℤ). to_z w32 (of_z w32 y)) e ∙ ap (to_z w32) (of_z-to_z fits) ∙ rw (lt-ltb n (2 ^ 32) h)
