-- "A fresh station has empty desks (all octets zero), no held file, all blocks free", and is sound. Assumes nothing.
use mathlib.Core.Path.{◌≡◌, refl, sym, ap, ◌∙◌}
use mathlib.Core.Bool.{true, false, ◌&&◌, true≢false}
use mathlib.Core.List.{List, map, map-map, map-id}
use Prim.Native.Nat.{ℕ, ◌*◌, ◌/◌, ◌%◌, ◌≤◌, ◌<◌}
use native.Mathlib.Omega.{arith}
use borrow.Author.Tests.{leb-true, eqb-true}
use lib.Dec.{leb, eqb}
use lib.ListN.{length, get_or, drop, replicate, length-append, length-map, length-replicate}
use lib.Seq.{take_at}
use Rattle.octets.proofs.Below.{neither}
use Rattle.octets.proofs.Lists.{only-replicate, only-drop, only-take}
use Rattle.octets.proofs.Decide.{told-true}
use Rattle.octets.proofs.Tests.{and_left, and_right}
use Rattle.state.specs.Slots.{no_file, empty_desk, all_zero_state, slot_at, desk_at, held, incomplete, named, number}
use Rattle.state.specs.Blocks.{table, needs, room}
use Rattle.state.specs.Sound.{Sized, SetUp, Sound, DesksSound}
use Rattle.state.specs.Decision.{good_channels, set_up_sound, is_sound}
use Rattle.state.proofs.Exactly.{channels-exactly}
use Rattle.station.specs.SetUp.{whole_blocks, channel_of, fresh_station}

-- "1 to 8 distinct channels"
pub few-channels : (channels : List ℕ) → good_channels channels ≡ true → length channels ≤ 8
few-channels channels good = (told-true (channels-exactly channels) good).0.1

-- "0 to 62"
pub low-channels : (channels : List ℕ) → good_channels channels ≡ true → (i : ℕ) → i < length channels → get_or channels i 0 ≤ 62
low-channels channels good = (told-true (channels-exactly channels) good).1.0

-- "whole blocks, 1 to 4,096"
pub record Whole (store : List ℕ) (n : ℕ) : Type 0 where
  pub all : length store ≡ 8190 * n
  pub one : 1 ≤ n
  pub most : n ≤ 4096

pub whole-store : (store : List ℕ) → whole_blocks store ≡ true → Whole store (length store / 8190)
whole-store store whole =
    let n = length store / 8190 in
    let even = eqb (length store % 8190) 0 in
    let front = and_left (even && leb 1 n) (leb n 4096) whole in
    record {
      all = omega (arith, eqb-true (length store % 8190) 0 (and_left even (leb 1 n) front));
      one = leb-true 1 n (and_right even (leb 1 n) front);
      most = leb-true n 4096 (and_right (even && leb 1 n) (leb n 4096) whole);
    }

module _ (craft : ℕ) (channels : List ℕ) (blocks : ℕ) where
  pub fresh-sized : length channels ≤ 8 → Sized (fresh_station craft channels blocks)
  unfolding fresh_station
  fresh-sized few =
      record {
        watched = rw (length-append, length-map, length-replicate) (omega arith);
        desks = length-replicate 8 empty_desk;
        owner = length-replicate {A = ℕ} 4096 0;
        slots = length-replicate 32 no_file;
      }

  -- the channels watched are those named
  pub fresh-named : named (fresh_station craft channels blocks) ≡ channels
  unfolding fresh_station
  fresh-named =
      ap (map number) (take_at (map channel_of channels) _ (length channels) (length-map channels channel_of))
      ∙ map-map number channel_of channels ∙ map-id channels

  fresh-set_up : good_channels channels ≡ true → 1 ≤ blocks → blocks ≤ 4096 → SetUp (fresh_station craft channels blocks)
  unfolding fresh_station
  fresh-set_up good one most =
      let ((some, few), (low, apart)) = told-true (channels-exactly channels) good in
      record {
        some = some;
        few = few;
        low = rw fresh-named low;
        distinct = rw fresh-named (λ i j l m e. neither i j (λ p. apart i j p m (sym e)) (λ p. apart j i p l e));
        store = one;
        least = most;
      }

  -- "all blocks free"
  pub fresh-free : (b : ℕ) → get_or (table (fresh_station craft channels blocks)) b 0 ≡ 0
  unfolding fresh_station
  fresh-free = only-take 0 blocks (replicate 4096 0) (only-replicate 0 4096)

  -- "no held file"
  pub fresh-slots : (k : ℕ) → slot_at (fresh_station craft channels blocks) k ≡ no_file
  unfolding fresh_station
  fresh-slots = only-replicate no_file 32

  pub fresh-desk : (i : ℕ) → desk_at (fresh_station craft channels blocks) i ≡ empty_desk
  unfolding fresh_station
  fresh-desk = only-replicate empty_desk 8

  pub fresh-none : (k : ℕ) → held (slot_at (fresh_station craft channels blocks) k) ≡ false
  unfolding held
  fresh-none k = rw (fresh-slots k)

  fresh-complete : (k : ℕ) → incomplete (slot_at (fresh_station craft channels blocks) k) ≡ false
  unfolding held incomplete
  fresh-complete k = rw (fresh-slots k)

  pub fresh-sound : good_channels channels ≡ true → 1 ≤ blocks → blocks ≤ 4096 → Sound (fresh_station craft channels blocks)
  fresh-sound good one most =
      record {
        set_up = fresh-set_up good one most;
        blocks = λ b l f. absurd (f (fresh-free b));
        files = λ k l e. absurd (true≢false (sym e ∙ fresh-none k));
        alone = λ j k l m e. absurd (true≢false (sym e ∙ fresh-complete j));
        free = λ k l e. fresh-slots k;
        desks = λ i l. rw (fresh-desk i) (record { few = omega arith; counter = omega arith; unseen = λ e. (refl, refl) });
      }

  -- "empty desks (all octets zero)"
  pub fresh-desks : DesksSound (fresh_station craft channels blocks) (replicate (8198 * length channels) 0)
  fresh-desks =
      let n = 8198 * length channels in
      record {
        octets =
            λ i l.
            rw (fresh-desk i)
            (record {
              zeros = λ j h. only-take 0 8198 (drop (8198 * i) (replicate n 0)) (only-drop 0 (8198 * i) (replicate n 0) (only-replicate 0 n)) j;
              header = λ h. absurd (omega arith);
            });
      }

  fresh-needs : needs (fresh_station craft channels blocks).slots ≡ 0
  unfolding fresh_station needs held
  fresh-needs = refl

  -- all of the store is room
  pub fresh-room : room (fresh_station craft channels blocks) ≡ blocks
  unfolding fresh_station
  fresh-room = omega (arith, fresh-needs)

-- "a refused set-up's state is all zero, which isn't sound": it watches no channel
pub zero-unsound : is_sound all_zero_state ≡ false
unfolding is_sound set_up_sound good_channels
zero-unsound = refl
