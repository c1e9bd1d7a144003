-- `Frame::read` meets its contract: each field is a field of a number that was read, and keeps to its bits. Assumes nothing.
use mathlib.Core.Path.{◌≡◌, sym, subst}
use mathlib.Core.List.{List}
use Prim.Native.Nat.{ℕ, ◌+◌, ◌-◌, ◌*◌, ◌/◌, ◌%◌, ◌^◌, ◌≤◌, ◌<◌}
use native.Mathlib.Omega.{arith}
use lib.ListN.{length, take}
use Rattle.octets.specs.Number.{Octets, number_at, bits_at}
use Rattle.frame.specs.declared.Frame.{Frame}
use Rattle.frame.specs.Header.{frame_of, Bounded}
use Rattle.octets.proofs.Numbers.{field}
use Rattle.frame.proofs.Fields.{bounded}
use Rattle.frame.proofs.Frame.read.Goals as goal

module _ (plain : List ℕ) (octets : Octets plain) (eight : 8 ≤ length plain) where
  -- bits of the header, by the number in the n octets from place `at` on
  bits : (at n from w : ℕ) → at + n ≤ 8 → from + w ≤ 8 * n
      → bits_at (take 8 plain) (8 * at + from) w ≡ number_at plain at n / 2 ^ (8 * n - (from + w)) % 2 ^ w
  bits = field 8 plain octets eight

  header : (first : ℕ) → first ≡ number_at plain 0 2 → first < 2 ^ 16 → (count : ℕ) → count ≡ number_at plain 2 3 → count < 2 ^ 24
      → (last : ℕ) → last ≡ number_at plain 6 2
      → ◌≡◌ {A = Frame}
      (record {
        version = first / 16384;
        spacecraft = first / 64 % 256;
        channel = record { 0 = first % 64 };
        counter = record { 0 = count };
        pointer = last % 2048;
      })
      (frame_of plain)
  unfolding frame_of
  header first f short count c long last l =
      let version : first / 16384 ≡ bits_at (take 8 plain) 0 2 = omega (arith, bits 0 2 0 2 (omega arith) (omega arith)) in
      let spacecraft : first / 64 % 256 ≡ bits_at (take 8 plain) 2 8 = omega (arith, bits 0 2 2 8 (omega arith) (omega arith)) in
      let channel : first % 64 ≡ bits_at (take 8 plain) 10 6 = omega (arith, bits 0 2 10 6 (omega arith) (omega arith)) in
      let counter : count ≡ bits_at (take 8 plain) 16 24 = omega (arith, bits 2 3 0 24 (omega arith) (omega arith)) in
      let pointer : last % 2048 ≡ bits_at (take 8 plain) 53 11 = omega (arith, bits 6 2 5 11 (omega arith) (omega arith)) in
      λ i. record {
        version = version i;
        spacecraft = spacecraft i;
        channel = record { 0 = channel i };
        counter = record { 0 = counter i };
        pointer = pointer i;
      }

pub returns : goal.returns
returns c =
    let count = c.u24_at in
    let first = c.u16_at-first in
    let is =
    header _ (λ i. (c.type_inv.plain i).fits) c.requires _ first.ensures (omega arith) _ count.ensures.0
    count.ensures.1 _ c.u16_at-last.ensures in
    record {
      value = is;
      bounded = subst Bounded (sym is) (bounded _);
    }
