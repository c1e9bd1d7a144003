use mathlib.Core.Path.{◌≡◌, ap, ◌∙◌}
use mathlib.Core.List.{List, [], ◌∷◌, ◌++◌}
use Prim.Native.Nat.{ℕ, ◌/◌, ◌%◌, ◌^◌, ◌<◌}
use native.Mathlib.Omega.{arith}
use lib.ListN.{replicate}
use Rattle.std.specs.Int.{w32, to_be_bytes}
use Rattle.hunter.specs.Contract.{four_of, spread_of}
use Rattle.hunter.proofs.spread.Goals as goal

be_bytes : (v : ℕ) → v < 2 ^ 32 → to_be_bytes w32 v ≡ four_of v
be_bytes v h =
    let first : v / 16777216 % 256 ≡ v / 16777216 = omega arith in
    ap (λ (x : ℕ). x ∷ v / 65536 % 256 ∷ v / 256 % 256 ∷ v % 256 ∷ []) first

spreads : (v : ℕ) (bs : List ℕ) → v < 2 ^ 32 → bs ≡ to_be_bytes w32 v → bs ++ replicate 1020 0 ≡ spread_of v
unfolding spread_of
spreads v bs h e = ap (λ (xs : List ℕ). xs ++ replicate 1020 0) (e ∙ be_bytes v h)

pub returns : goal.returns
returns c = spreads c.args.v _ c.ranges.v.fits (c.copy_from_slice.ensures.after ∙ c.to_be_bytes.ensures)
