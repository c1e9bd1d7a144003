-- The octets of the pseudo-random sequence, written one by one. Assumes nothing.
use mathlib.Core.Path.{◌≡◌, refl, ap, ◌∙◌}
use mathlib.Core.List.{List, ◌++◌}
use Prim.Native.Nat.{ℕ, suc, ◌+◌, ◌-◌, ◌*◌, ◌≤◌, ◌<◌}
use native.Mathlib.Nat.{add-zero, sub-zero}
use native.Mathlib.Omega.{arith}
use lib.ListN.{length}
use Rattle.io.specs.Digits.{last_digits}
use Rattle.noise.specs.Noise.{noise_at}
use Rattle.text.specs.Pieces.{in_hex, Written}
use Rattle.text.proofs.Following.{Writing, begun, went_on, done}
use Rattle.vectors.specs.Answers.{sequence}

-- what is left from octet i on: its own digits first
next : (from number i : ℕ) → i < number
    → in_hex (sequence (from + i) (number - i)) ≡ (last_digits 16 2 (noise_at (from + i)) ++ in_hex (sequence (from + (i + 1)) (number - (i + 1))))
unfolding sequence in_hex
next from number i h =
    let left : number - i ≡ suc (number - (i + 1)) = omega arith in
    let place : suc (from + i) ≡ from + (i + 1) = omega arith in
    ap (λ (n : ℕ). in_hex (sequence (from + i) n)) left ∙ rw place

-- the digits of the first i octets were written
pub record Sounding (from number : ℕ) (before : List ℕ) (at : ℕ) (out : List ℕ) (end i : ℕ) : Type 0 where
  pub place : end ≡ at + 2 * i
  pub room : length out ≡ length before
  pub gives : Writing before at (in_hex (sequence from number)) out end (in_hex (sequence (from + i) (number - i)))

pub sounding-none : (from number : ℕ) (before : List ℕ) (at : ℕ) → Sounding from number before at before at 0
sounding-none from number before at =
    record {
      place = omega arith;
      room = refl;
      gives = rw (add-zero, sub-zero) (begun before (in_hex (sequence from number)) at);
    }

module _ {from number : ℕ} {before out : List ℕ} {at end i : ℕ} (g : Sounding from number before at out end i) where
  pub sounding-more : {after : List ℕ} {next : ℕ} → i < number → next ≡ end + 2 → length after ≡ length out
      → Written out end (last_digits 16 2 (noise_at (from + i))) after next → Sounding from number before at after next (i + 1)
  sounding-more h e room w =
      record {
        place = omega (arith, e, g.place);
        room = room ∙ g.room;
        gives = went_on (rw (next from number i h) at g.gives) w;
      }

  pub sounding-all : number ≤ i → Written before at (in_hex (sequence from number)) out end
  unfolding sequence in_hex
  sounding-all h =
      let none : number - i ≡ 0 = omega arith in
      done (rw none at g.gives)
