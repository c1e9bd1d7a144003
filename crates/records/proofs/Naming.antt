-- The name in a navigation record, as it is copied out. Assumes nothing.
use mathlib.Core.Path.{◌≡◌, ◌∙◌}
use mathlib.Core.List.{List}
use Prim.Native.Nat.{ℕ, ◌+◌, ◌-◌, ◌≤◌}
use native.Mathlib.Omega.{arith}
use lib.ListN.{length, take, drop, replicate}
use Rattle.octets.specs.Buffer.{put}
use Rattle.octets.specs.Number.{part}
use Rattle.octets.proofs.Lists.{whole_part}
use Rattle.octets.proofs.Put.{put_whole}
use Rattle.records.specs.Reader.{name_at}

pub name-copied : (header : List ℕ) (p : ℕ) {name : List ℕ} → p + 51 ≤ length header
    → name ≡ put (replicate 32 0) 0 (take (p + 3 + 32 - (p + 3)) (drop (p + 3) header)) → name ≡ name_at header p
unfolding name_at
name-copied header p h e =
    let size : p + 3 + 32 - (p + 3) ≡ 32 = omega arith in
    e ∙ rw size (put_whole (replicate 32 0) (part (p + 3) 32 header) (whole_part header (p + 3) 32 (omega arith)))
