-- What the constructors tell: a number in its range makes itself, and no other makes anything. Assumes nothing.
use Rattle.std.specs.Prelude.{Option, Some, None}
use mathlib.Core.Path.{◌≡◌, sym, ap, ◌∙◌}
use Prim.Native.Nat.{ℕ, ◌≤◌, ◌<◌}
use native.Mathlib.Omega.{arith}
use borrow.Author.Tests.{ltb-true, ltb-false, leb-false}
use lib.Dec.{ltb, leb}
use Rattle.octets.proofs.Lists.{if-cases}
use Rattle.frame.specs.Kinds.{checked_channel, checked_counter}
use Rattle.frame.specs.declared.Channel.{Channel}
use Rattle.frame.specs.declared.Counter.{Counter}

module _ (n : ℕ) {x : Option Channel} (told : x ≡ checked_channel n) where
  pub made-channel : {c : Channel} → x ≡ Some c → c ≡ record { 0 = n }
  made-channel {c} e =
      if-cases (λ (y : Option Channel). y ≡ Some c → c ≡ record { 0 = n }) (leb n 62) (λ low q. cc) (λ high q. cc) (sym told ∙ e)

  pub no-channel : x ≡ None → 62 < n
  no-channel e =
      if-cases (λ (y : Option Channel). y ≡ None → 62 < n) (leb n 62)
      (λ low q.
      let never : ◌≡◌ {A = ℕ} 0 1 = cc in
      absurd (omega arith))
      (λ high q. leb-false n 62 high)
      (sym told ∙ e)

module _ (n : ℕ) {x : Option Counter} (told : x ≡ checked_counter n) where
  pub made-counter : {c : Counter} → x ≡ Some c → (n < 0x1000000) × (c.0 ≡ n)
  made-counter {c} e =
      if-cases (λ (y : Option Counter). y ≡ Some c → (n < 0x1000000) × (c.0 ≡ n)) (ltb n 0x1000000)
      (λ low q.
      let same : c ≡ record { 0 = n } = cc in
      (ltb-true n 0x1000000 low, ap (λ (d : Counter). d.0) same))
      (λ high q.
      let never : ◌≡◌ {A = ℕ} 0 1 = cc in
      absurd (omega arith))
      (sym told ∙ e)

  pub no-counter : x ≡ None → 0x1000000 ≤ n
  no-counter e =
      if-cases (λ (y : Option Counter). y ≡ None → 0x1000000 ≤ n) (ltb n 0x1000000)
      (λ low q.
      let never : ◌≡◌ {A = ℕ} 0 1 = cc in
      absurd (omega arith))
      (λ high q. ltb-false n 0x1000000 high)
      (sym told ∙ e)
