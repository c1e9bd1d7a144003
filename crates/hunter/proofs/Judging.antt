-- The test of a hunter: what the octets that wait and those behind them say of it. Assumes nothing.
use mathlib.Core.Path.{◌≡◌, refl, sym, ◌∙◌}
use mathlib.Core.Bool.{true}
use mathlib.Core.List.{List}
use Prim.Native.Nat.{ℕ, ◌-◌, ◌≤◌, ◌<◌}
use native.Mathlib.Omega.{arith}
use borrow.Author.Tests.{lt-ltb, le-ltb, le-leb}
use lib.ListN.{length, drop, length-drop}
use lib.Seq.{take_all}
use Rattle.octets.specs.Number.{part, number, number_at}
use Rattle.octets.specs.Buffer.{all_zero}
use Rattle.stream.specs.declared.Hunter.{Hunter}
use Rattle.stream.specs.Stream.{is_marker, wrong_bits}
use Rattle.stream.specs.Hunter.{is_sound}
use Rattle.stream.specs.Seek.{near}

pub near-number : (k : ℕ) (xs : List ℕ) → near k (number_at xs 0 4) ≡ is_marker k xs
unfolding number_at number is_marker wrong_bits
near-number k xs = refl

module _ (h : Hunter) (b : h.begun ≡ true) (k : h.k ≤ 3) (l : h.waiting < 1024) (size : length h.octets ≡ 1024) where
  behind : part h.waiting (1024 - h.waiting) h.octets ≡ drop h.waiting h.octets
  behind = take_all (1024 - h.waiting) (drop h.waiting h.octets) (omega (arith, length-drop h.waiting h.octets))

  pub few-waiting : h.waiting < 4 → all_zero (part h.waiting (1024 - h.waiting) h.octets) ≡ is_sound h
  unfolding is_sound
  few-waiting f = rw (b, le-leb h.k 3 k, lt-ltb h.waiting 1024 l, lt-ltb h.waiting 4 f, behind)

  pub marker-waits : 4 ≤ h.waiting → near h.k (number_at h.octets 0 4) ≡ true → all_zero (part h.waiting (1024 - h.waiting) h.octets) ≡ is_sound h
  unfolding is_sound
  marker-waits f n =
      rw (b, le-leb h.k 3 k, lt-ltb h.waiting 1024 l, le-ltb h.waiting 4 f, sym (near-number h.k h.octets) ∙ n, behind)
