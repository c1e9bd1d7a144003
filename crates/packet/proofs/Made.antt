-- What the constructor of counts tells: a number below 16,384 makes one, and no other does. Assumes nothing.
use Rattle.std.specs.Prelude.{Option, Some, None}
use mathlib.Core.Path.{◌≡◌, sym, ◌∙◌}
use Prim.Native.Nat.{ℕ, ◌≤◌, ◌<◌}
use native.Mathlib.Omega.{arith}
use borrow.Author.Tests.{ltb-true, ltb-false}
use lib.Dec.{ltb}
use Rattle.octets.proofs.Lists.{if-cases}
use Rattle.packet.specs.Kinds.{checked_count}
use Rattle.packet.specs.declared.Count.{Count}

module _ (n : ℕ) {x : Option Count} (told : x ≡ checked_count n) where
  pub made-count : {c : Count} → x ≡ Some c → n < 16384
  made-count {c} e =
      if-cases (λ (y : Option Count). y ≡ Some c → n < 16384) (ltb n 16384) (λ low q. ltb-true n 16384 low)
      (λ high q.
      let never : ◌≡◌ {A = ℕ} 0 1 = cc in
      absurd (omega arith))
      (sym told ∙ e)

  pub no-count : x ≡ None → 16384 ≤ n
  no-count e =
      if-cases (λ (y : Option Count). y ≡ None → 16384 ≤ n) (ltb n 16384)
      (λ low q.
      let never : ◌≡◌ {A = ℕ} 0 1 = cc in
      absurd (omega arith))
      (λ high q. ltb-false n 16384 high)
      (sym told ∙ e)
