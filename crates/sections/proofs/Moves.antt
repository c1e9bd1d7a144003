-- A stretch copied to another place of its buffer. Assumes nothing.
use mathlib.Core.Path.{◌≡◌, sym, ap, ◌∙◌}
use mathlib.Core.List.{List, ◌++◌}
use Prim.Native.Nat.{ℕ, ◌+◌, ◌-◌, ◌≤◌}
use native.Mathlib.Omega.{arith}
use lib.ListN.{length, take, drop}
use lib.Seq.{paste}
use Rattle.octets.specs.Number.{part}
use Rattle.octets.specs.Buffer.{put}
use Rattle.octets.proofs.Lists.{whole_part}
use Rattle.octets.proofs.Put.{put-parts}

pub moved : (xs : List ℕ) (at n to : ℕ) → at + n ≤ length xs → to + n ≤ length xs → paste xs to (drop at xs) (at + n - at) ≡ put xs to (part at n xs)
moved xs at n to h k =
    let e : at + n - at ≡ n = omega arith in
    let long : length (part at n xs) ≡ n = whole_part xs at n h in
    rw e (sym (put-parts xs to (part at n xs) (omega arith) ∙ ap (λ (m : ℕ). take to xs ++ part at n xs ++ drop (to + m) xs) long))
