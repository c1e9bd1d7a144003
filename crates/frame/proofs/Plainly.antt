-- The header of a frame in the octets as they came. Assumes nothing.
use mathlib.Core.Path.{◌≡◌, ap, ◌∙◌}
use mathlib.Core.List.{List}
use Prim.Native.Nat.{ℕ, ◌+◌, ◌-◌, ◌*◌, ◌/◌, ◌%◌, ◌^◌, ◌≤◌, ◌<◌}
use native.Mathlib.Omega.{arith}
use lib.Bits.{bit_xor}
use lib.ListN.{length, get_or, take, drop, length-drop}
use lib.Seq.{get_or-drop, get_or-take}
use Rattle.octets.specs.Number.{Octets, number_at, bits_at}
use Rattle.octets.proofs.Numbers.{octets-drop, number_at-one, two-octets, three-octets, field}
use Rattle.noise.specs.Noise.{s, octet_from, noise_at}
use Rattle.noise.proofs.Mixing.{get_or-mixed, octets-mixed}
use Rattle.frame.specs.Header.{derandomised, frame_of, zone_of}
use Rattle.frame.specs.Plainly.{Plainly, ZonePlainly}
use Rattle.frame.proofs.Sizes.{length-derandomised, length-zone}

module _ (f : List ℕ) (size : length f ≡ 1024) where
  -- octet i behind the marker is mixed with octet i of the sequence
  clear : (i : ℕ) → i < 1020 → get_or (derandomised f) i 0 ≡ bit_xor (get_or f (4 + i) 0) (noise_at i)
  unfolding derandomised
  clear i l =
      get_or-mixed i (drop 4 f) (omega (arith, length-drop 4 f)) ∙ ap (λ (x : ℕ). bit_xor x (noise_at i)) (get_or-drop 4 f i 0)

  pub zone-plainly : ZonePlainly f (zone_of (derandomised f))
  unfolding zone_of
  zone-plainly =
      let p = derandomised f in
      record {
        size = length-zone p (length-derandomised f size);
        octets = λ i l.
            get_or-take 884 (drop 8 p) i 0 l ∙ get_or-drop 8 p i 0 ∙ clear (8 + i) (omega arith)
            ∙ ap (λ (n : ℕ). bit_xor (get_or f n 0) (noise_at (8 + i))) (omega arith);
      }

  module _ (octets : Octets f) where
    plain-octets : Octets (derandomised f)
    unfolding derandomised
    plain-octets = octets-mixed (drop 4 f) (octets-drop f 4 octets)

    plain-long : length (derandomised f) ≡ 1020
    plain-long = length-derandomised f size

    bits : (at n from w : ℕ) → at + n ≤ 8 → from + w ≤ 8 * n
        → bits_at (take 8 (derandomised f)) (8 * at + from) w ≡ number_at (derandomised f) at n / 2 ^ (8 * n - (from + w)) % 2 ^ w
    bits = field 8 (derandomised f) plain-octets (omega (arith, plain-long))

    pub plainly : Plainly f (frame_of (derandomised f))
    unfolding frame_of noise_at octet_from s
    plainly =
        let p = derandomised f in
        let a : get_or p 0 0 ≡ bit_xor (get_or f 4 0) 0xff = clear 0 (omega arith) in
        let b : get_or p 1 0 ≡ bit_xor (get_or f 5 0) 0x48 = clear 1 (omega arith) in
        let first = two-octets p 0 (omega (arith, plain-long)) in
        let one = number_at-one p 0 (omega (arith, plain-long)) in
        let second = number_at-one p 1 (omega (arith, plain-long)) in
        let third = three-octets p 2 (omega (arith, plain-long)) in
        let last = two-octets p 6 (omega (arith, plain-long)) in
        record {
          version = omega (arith, bits 0 1 0 2 (omega arith) (omega arith), one, a, plain-octets 0);
          spacecraft = omega (arith, bits 0 2 2 8 (omega arith) (omega arith), first, a, b, plain-octets 0, plain-octets 1);
          channel = omega (arith, bits 1 1 2 6 (omega arith) (omega arith), second, b);
          counter =
              omega (
                arith,
                bits 2 3 0 24 (omega arith) (omega arith),
                third,
                clear 2 (omega arith),
                clear 3 (omega arith),
                clear 4 (omega arith),
                plain-octets 2,
                plain-octets 3,
                plain-octets 4,
              );
          pointer =
              omega (arith, bits 6 2 5 11 (omega arith) (omega arith), last, clear 6 (omega arith), clear 7 (omega arith), plain-octets 6, plain-octets 7);
        }
