-- `are_parts_sound` meets its contract: each of the paper's clauses by the contract of the function that decides it. Assumes nothing.
use mathlib.Core.Path.{◌≡◌, sym, ◌∙◌}
use mathlib.Core.Bool.{Bool, true, false, ◌&&◌}
use mathlib.Core.List.{List, map}
use Prim.Native.Nat.{ℕ, ◌-◌, ◌≤◌}
use native.Mathlib.Omega.{arith}
use borrow.Author.Rules.{rules}
use borrow.Author.Tests.{leb-true}
use lib.Dec.{leb}
use lib.ListN.{take}
use Rattle.octets.specs.Each.{each}
use Rattle.octets.proofs.Lists.{take-map}
use Rattle.octets.proofs.Tests.{denied, granted, and_left, and_right}
use Rattle.state.specs.declared.Station.{Station}
use Rattle.state.specs.Slots.{number, named}
use Rattle.state.specs.Blocks.{table}
use Rattle.state.specs.Decision.{good_channels, set_up_sound, is_owner, block_counts, slots_sound, no_twins, desk_holds, is_sound}
use Rattle.state.proofs.Walk.{from_zero}
use Rattle.sound.proofs.are_parts_sound.Goals as goal

-- a set-up that is right bounds the channels and the blocks
module _ (channels : ℕ) (names : List ℕ) (blocks : ℕ) (e : set_up_sound channels names blocks ≡ true) where
  set-few : channels ≤ 8
  unfolding set_up_sound
  set-few = leb-true _ _ (and_left _ _ (and_left _ _ (and_left _ _ e)))

  set-store : blocks ≤ 4096
  unfolding set_up_sound
  set-store = leb-true _ _ (and_right (leb channels 8 && good_channels names && leb 1 blocks) _ e)

-- the clauses, test after test
module _ (s : Station) {names : List ℕ} (e : names ≡ map number s.watched) where
  first : take s.channels names ≡ named s
  first = rw (e, take-map number s.channels s.watched)

  no-set-up : set_up_sound s.channels (take s.channels names) s.blocks ≡ false → is_sound s ≡ false
  unfolding is_sound
  no-set-up n = rw (← first, n)

  module _ (set-up : set_up_sound s.channels (take s.channels names) s.blocks ≡ true) where
    no-owner : each is_owner (table s) ≡ false → is_sound s ≡ false
    unfolding is_sound
    no-owner n = rw (← first, set-up, n)

    module _ (owners : each is_owner (table s) ≡ true) {counts : List ℕ} (counted : counts ≡ block_counts (table s) 0 32) where
      abbrev slots : Bool
      slots = slots_sound (take (s.channels - 0) names) counts s.slots && no_twins s.slots

      all : is_sound s ≡ (slots && each desk_holds (take s.channels s.desks))
      unfolding is_sound
      all = rw (← first, set-up, owners, ← counted, ← from_zero s.channels names)

      no_slot : slots ≡ false → is_sound s ≡ false
      no_slot n = all ∙ rw n

      desks : slots ≡ true → is_sound s ≡ each desk_holds (take s.channels s.desks)
      desks n = all ∙ rw n

pub returns-then-not-set_up_sound : goal.returns-then-not-set_up_sound
returns-then-not-set_up_sound c = sym (no-set-up _ c.numbers-names.ensures (search denied))

pub count_owners-owners-requires : goal.count_owners-owners-requires
count_owners-owners-requires c =
    let store = set-store _ _ _ (sym c.set_up_sound.ensures ∙ c.if-not-set_up_sound.false) in
    search rules

pub returns-then-not-owners : goal.returns-then-not-owners
returns-then-not-owners c =
    let stray = denied c.count_owners-owners.ensures.good_value c.if-not-owners.true in
    sym (no-owner _ c.numbers-names.ensures (search granted) stray)

pub slice_bounds-slots_sound-end : goal.slice_bounds-slots_sound-end
slice_bounds-slots_sound-end c =
    let few = set-few _ _ _ (sym c.set_up_sound.ensures ∙ c.if-not-set_up_sound.false) in
    search rules

pub returns-then-not-slots_sound : goal.returns-then-not-slots_sound
returns-then-not-slots_sound c =
    let named = c.numbers-names.ensures in
    sym (no_slot _ named (search granted) (search granted) c.count_owners-owners.ensures.counts_value (search denied))

pub desks_hold-requires : goal.desks_hold-requires
desks_hold-requires c =
    omega (arith, set-few _ _ _ (sym c.set_up_sound.ensures ∙ c.if-not-set_up_sound.false))

pub returns : goal.returns
returns c =
    let named = c.numbers-names.ensures in
    c.desks_hold.ensures
    ∙ sym (desks _ named (search granted) (search granted) c.count_owners-owners.ensures.counts_value (search granted))
