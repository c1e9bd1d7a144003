-- How many digits a number takes. Assumes nothing.
use mathlib.Core.Path.{◌≡◌}
use Prim.Native.Nat.{ℕ, ◌-◌, ◌^◌, ◌≤◌, ◌<◌, min, max}
use native.Mathlib.Nat.{pow-le-pow_right, min-eq_left, max-eq_left}
use native.Mathlib.Omega.{arith}
use native.Mathlib.Decide.{dec_lt}
use Rattle.io.specs.Digits.{IsDigitCount}

-- a number that m digits hold takes no more, where no more are asked
pub at_most : (b w m v k : ℕ) → 0 < b → w ≤ m → v < b ^ m → IsDigitCount b w v k → k ≤ m
at_most b w m v k p l h f = go (dec_lt m k)
  where
    go : Dec (m < k) → k ≤ m
    go (yes q) =
        let r : b ^ m ≤ b ^ (k - 1) = pow-le-pow_right p (omega arith) in
        let t : b ^ (k - 1) ≤ v = f.2 (omega arith) in
        omega arith
    go (no q) = omega arith

-- as `io::hex` has it: a width from 1 to 16 counts as itself
pub exactly : (w v k : ℕ) → 1 ≤ w → w ≤ 16 → v < 16 ^ w → IsDigitCount 16 (min (max w 1) 16) v k → k ≡ w
exactly w v k l m h f =
    let e : min (max w 1) 16 ≡ w = rw (max-eq_left l) (min-eq_left m) in
    omega (arith, f.0, at_most 16 (min (max w 1) 16) w v k (omega arith) (omega arith) h f)
