-- The header of a packet in its octets, and when it is bad. Assumes nothing.
use mathlib.Core.Path.{◌≡◌}
use mathlib.Core.List.{List}
use mathlib.Core.Logic.{◌↔◌, inl, inr, ⊎_elim}
use Prim.Native.Nat.{ℕ, ◌+◌, ◌-◌, ◌*◌, ◌/◌, ◌%◌, ◌^◌, ◌≤◌}
use native.Mathlib.Omega.{arith}
use lib.ListN.{length, take}
use Rattle.octets.specs.Choice.{Decides}
use Rattle.octets.specs.Number.{Octets, number_at, bits_at}
use Rattle.octets.proofs.Decide.{told-true, tells, decides-same}
use Rattle.octets.proofs.Numbers.{two-octets, field}
use Rattle.packet.specs.declared.Look.TheVariants.{Bad}
use Rattle.packet.specs.Header.{packet_of, bad, look_of}
use Rattle.packet.specs.Plainly.{Plainly, BadPlainly}
use Rattle.packet.proofs.Looks.{faults, look-tells, look-bad}

pub plainly : (p : List ℕ) → 6 ≤ length p → Octets p → Plainly p (packet_of p)
unfolding packet_of
plainly p six octets =
    let bits : (at n from w : ℕ) → at + n ≤ 6 → from + w ≤ 8 * n
    → bits_at (take 6 p) (8 * at + from) w ≡ number_at p at n / 2 ^ (8 * n - (from + w)) % 2 ^ w = field 6 p octets six in
    let first = two-octets p 0 (omega arith) in
    let second = two-octets p 2 (omega arith) in
    let third = two-octets p 4 (omega arith) in
    record {
      version = omega (arith, bits 0 2 0 3 (omega arith) (omega arith), first, octets 0, octets 1);
      application = omega (arith, bits 0 2 5 11 (omega arith) (omega arith), first, octets 0, octets 1);
      flags = omega (arith, bits 2 2 0 2 (omega arith) (omega arith), second, octets 2, octets 3);
      count = omega (arith, bits 2 2 2 14 (omega arith) (omega arith), second, octets 2, octets 3);
      long = omega (arith, bits 4 2 0 16 (omega arith) (omega arith), third, octets 4, octets 5);
    }

-- a header is bad exactly if its octets say so
pub bad-plainly : (p : List ℕ) → 6 ≤ length p → Octets p → (look_of p ≡ Bad) ↔ BadPlainly p
bad-plainly p six octets =
    let h = packet_of p in
    let is = plainly p six octets in
    let exact : Decides (BadPlainly p) (bad h) =
    decides-same
    (⊎_elim (⊎_elim (λ v. inl (omega (arith, is.version))) (λ l. inr (inl (omega (arith, is.long)))))
    (λ (a, l). inr (inr (omega (arith, is.application), omega (arith, is.long)))))
    (⊎_elim (λ v. inl (inl (omega (arith, is.version))))
    (⊎_elim (λ l. inl (inr (omega (arith, is.long)))) (λ (a, l). inr (omega (arith, is.application), omega (arith, is.long)))))
    (faults h) in
    (λ e. told-true exact (look-tells p e).1, λ b. look-bad p six (tells exact b))
