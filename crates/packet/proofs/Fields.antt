-- The fields of a header as the code reads them, parts of numbers of whole octets, and bounded by their widths. Assumes nothing.
use mathlib.Core.Path.{◌≡◌}
use mathlib.Core.List.{List}
use Prim.Native.Nat.{ℕ, ◌/◌, ◌%◌, ◌≤◌, ◌<◌}
use native.Mathlib.Omega.{arith}
use lib.ListN.{length, take}
use Rattle.octets.specs.Number.{Octets, number_at, bits_at}
use Rattle.octets.proofs.Numbers.{field, bits_at-below}
use Rattle.packet.specs.declared.Packet.{Packet}
use Rattle.packet.specs.Header.{packet_of, Bounded}

-- the header from the three numbers in its six octets
pub read_is : (xs : List ℕ) → Octets xs → 6 ≤ length xs
    → {a b n : ℕ} → a ≡ number_at xs 0 2 → b ≡ number_at xs 2 2 → n ≡ number_at xs 4 2 → (a < 65536) × (b < 65536) × (n < 65536)
    → ◌≡◌ {A = Packet}
    (record {
      version = a / 8192;
      application = record { 0 = a % 2048 };
      flags = b / 16384;
      count = record { 0 = b % 16384 };
      length = n;
    })
    (packet_of xs)
unfolding packet_of
read_is xs h six {a} {b} {n} first second third below =
    let version : a / 8192 ≡ bits_at (take 6 xs) 0 3 = omega (arith, field 6 xs h six 0 2 0 3 (omega arith) (omega arith)) in
    let application : a % 2048 ≡ bits_at (take 6 xs) 5 11 = omega (arith, field 6 xs h six 0 2 5 11 (omega arith) (omega arith)) in
    let flags : b / 16384 ≡ bits_at (take 6 xs) 16 2 = omega (arith, field 6 xs h six 2 2 0 2 (omega arith) (omega arith)) in
    let count : b % 16384 ≡ bits_at (take 6 xs) 18 14 = omega (arith, field 6 xs h six 2 2 2 14 (omega arith) (omega arith)) in
    let last : n ≡ bits_at (take 6 xs) 32 16 = omega (arith, field 6 xs h six 4 2 0 16 (omega arith) (omega arith)) in
    λ i. record {
      version = version i;
      application = record { 0 = application i };
      flags = flags i;
      count = record { 0 = count i };
      length = last i;
    }

pub bounded : (xs : List ℕ) → Bounded (packet_of xs)
unfolding packet_of
bounded xs =
    let h : List ℕ = take 6 xs in
    record {
      version = bits_at-below h 0 3;
      application = bits_at-below h 5 11;
      flags = bits_at-below h 16 2;
      count = bits_at-below h 18 14;
      long = bits_at-below h 32 16;
    }
