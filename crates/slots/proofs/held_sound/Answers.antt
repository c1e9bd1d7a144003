-- `held_sound` meets its contract, by its tests in the paper's order and the contracts of `among`, `good_length` and `Count::checked`.
-- Assumes nothing.
use mathlib.Core.Path.{◌≡◌, sym}
use mathlib.Core.Bool.{true, false}
use mathlib.Core.List.{List}
use Prim.Native.Nat.{ℕ, ◌≤◌, ◌<◌}
use native.Mathlib.Omega.{arith}
use borrow.Author.Rules.{rules}
use borrow.Author.Tests.{lt-leb, le-leb, lt-ltb, le-ltb}
use lib.Dec.{eqb}
use Rattle.octets.proofs.Tests.{denied, granted}
use Rattle.packet.proofs.Made.{made-count, no-count}
use Rattle.transport.specs.Length.{good_length}
use Rattle.state.specs.declared.Slot.{Slot}
use Rattle.state.specs.Slots.{held, need_of}
use Rattle.state.specs.Decision.{among, slot_sound}
use Rattle.slots.proofs.held_sound.Goals as goal

-- a held slot, test after test
module _ (channels : List ℕ) (n : ℕ) (x : Slot) (h : held x ≡ true) where
  over : need_of x < x.accepted → slot_sound channels n x ≡ false
  unfolding slot_sound
  over l = rw (h, lt-leb _ _ l)

  module _ (few : x.accepted ≤ need_of x) where
    unwatched : among x.channel.0 channels ≡ false → slot_sound channels n x ≡ false
    unfolding slot_sound
    unwatched w = rw (h, le-leb _ _ few, w)

    module _ (watched : among x.channel.0 channels ≡ true) where
      no-file : 2015 < x.application.0 → slot_sound channels n x ≡ false
      unfolding slot_sound
      no-file l = rw (h, le-leb _ _ few, watched, lt-leb _ _ l)

      module _ (file : x.application.0 ≤ 2015) where
        no_length : good_length x.bits ≡ false → slot_sound channels n x ≡ false
        unfolding slot_sound
        no_length l = rw (h, le-leb _ _ few, watched, le-leb _ _ file, l)

        module _ (long : good_length x.bits ≡ true) where
          uncounted : 16384 ≤ x.count.0 → slot_sound channels n x ≡ false
          unfolding slot_sound
          uncounted l = rw (h, le-leb _ _ few, watched, le-leb _ _ file, long, le-ltb _ _ l)

          counted : {m : ℕ} → m ≡ need_of x → x.count.0 < 16384 → slot_sound channels n x ≡ eqb n m
          unfolding slot_sound
          counted e l = rw (h, le-leb _ _ few, watched, le-leb _ _ file, long, lt-ltb _ _ l, e)

pub returns-then-x-need : goal.returns-then-x-need
returns-then-x-need c = sym (over _ _ _ (search rules) (omega arith))

pub returns-then-not-among : goal.returns-then-not-among
returns-then-not-among c = sym (unwatched _ _ _ (search rules) (omega arith) (search denied))

pub returns-then-application-gt-LAST_FILE : goal.returns-then-application-gt-LAST_FILE
returns-then-application-gt-LAST_FILE c = sym (no-file _ _ _ (search rules) (omega arith) (search granted) (omega arith))

pub returns-then-not-good_length : goal.returns-then-not-good_length
returns-then-not-good_length c = sym (no_length _ _ _ (search rules) (omega arith) (search granted) (omega arith) (search denied))

pub returns-in_default : goal.returns-in_default
returns-in_default c =
    let high = no-count _ c.checked-checked.ensures c.in_default.is in
    sym (uncounted _ _ _ (search rules) (omega arith) (search granted) (omega arith) (search granted) high)

pub returns : goal.returns
returns c =
    let low = made-count _ c.checked-checked.ensures c.in-Some.is in
    sym (counted _ _ _ (search rules) (omega arith) (search granted) (omega arith) (search granted) (omega arith) low)
