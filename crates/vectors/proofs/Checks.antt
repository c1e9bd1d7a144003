-- Numbers of a question made counts and counters, by the constructors that check their range; a test's answer as a number. Assumes nothing.
use Rattle.std.specs.Prelude.{if◌then◌else◌, Some, None}
use Rattle.std.proofs.lemmas.Grind.{common_steps}
use mathlib.Core.Path.{◌≡◌, refl}
use mathlib.Core.Bool.{Bool, true, false}
use mathlib.Core.List.{List}
use Prim.Native.Nat.{ℕ, ◌≤◌, ◌<◌}
use native.Mathlib.Omega.{arith}
use borrow.Author.Tests.{lt-ltb, le-ltb}
use lib.Dec.{ltb, leb}
use lib.ListN.{length, get_or}
use mir.Val.{bool_byte}
use Rattle.octets.specs.Number.{number_at}
use Rattle.octets.proofs.Numbers.{number_at-one}
use Rattle.frame.specs.declared.Counter.{Counter}
use Rattle.frame.specs.Kinds.{checked_counter}
use Rattle.packet.specs.declared.Count.{Count}
use Rattle.packet.specs.Kinds.{checked_count}
use Rattle.vectors.specs.Answers.{no_question, fit_text, shape_text}

pub bad-count : (n : ℕ) → checked_count n ≡ None → leb 16384 n ≡ true
bad-count n e = grind (arith, common_steps)

pub good-count : (n : ℕ) {k : Count} → checked_count n ≡ Some k → (leb 16384 n ≡ false) × (k ≡ record { 0 = n })
good-count n {k} e = (grind (arith, common_steps), grind (arith, common_steps))

-- "Flags over 3 and counts of 16,384 or more print `?`, before L is looked at."
module _ (q : List ℕ) (h : 0 < length q) where
  pub flags-over : 3 < get_or q 0 0 → no_question ≡ shape_text q
  unfolding shape_text
  flags-over p = rw (number_at-one q 0 h, lt-ltb _ _ p)

  module _ (p : get_or q 0 0 ≤ 3) where
    pub last-over : checked_count (number_at q 13 2) ≡ None → no_question ≡ shape_text q
    unfolding shape_text
    last-over e = rw (number_at-one q 0 h, le-ltb _ _ p, bad-count (number_at q 13 2) e)

    module _ {last : Count} (l : checked_count (number_at q 13 2) ≡ Some last) where
      pub count-over : checked_count (number_at q 15 2) ≡ None → no_question ≡ shape_text q
      unfolding shape_text
      count-over e = rw (number_at-one q 0 h, le-ltb _ _ p, (good-count (number_at q 13 2) l).0, bad-count (number_at q 15 2) e)

      pub in-range : {k : Count} → checked_count (number_at q 15 2) ≡ Some k
          → fit_text (number_at q 0 1) (number_at q 1 2) (number_at q 3 8) (number_at q 11 2) last k ≡ shape_text q
      unfolding shape_text
      in-range e =
          let flags : ltb 3 (number_at q 0 1) ≡ false = rw (number_at-one q 0 h) (le-ltb _ _ p) in
          rw (
            flags,
            (good-count (number_at q 13 2) l).0,
            (good-count (number_at q 15 2) e).0,
            (good-count (number_at q 13 2) l).1,
            (good-count (number_at q 15 2) e).1,
          )

-- three octets are always in range
pub good-counter : (n : ℕ) {k : Counter} → n < 0x1000000 → checked_counter n ≡ Some k → k ≡ record { 0 = n }
good-counter n {k} h e = grind (arith, common_steps)

-- `b as u64`
pub as_number : (b : Bool) → bool_byte b ≡ (if b then 1 else 0)
as_number true = refl
as_number false = refl
