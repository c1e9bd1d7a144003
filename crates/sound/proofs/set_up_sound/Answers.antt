-- `set_up_sound` meets its contract, by its tests and the contract of `good_channels`. Assumes nothing.
use mathlib.Core.Path.{◌≡◌, sym, ◌∙◌}
use mathlib.Core.Bool.{true, false}
use mathlib.Core.List.{List}
use Prim.Native.Nat.{ℕ, ◌-◌, ◌≤◌}
use native.Mathlib.Omega.{arith}
use borrow.Author.Tests.{le-leb}
use lib.Dec.{leb}
use lib.ListN.{take}
use Rattle.octets.proofs.Tests.{tests, granted}
use Rattle.state.specs.Decision.{good_channels, set_up_sound}
use Rattle.state.proofs.Walk.{from_zero}
use Rattle.sound.proofs.set_up_sound.Goals as goal

module _ (channels : ℕ) (names : List ℕ) (blocks : ℕ) (few : channels ≤ 8) where
  unnamed : good_channels (take (channels - 0) names) ≡ false → set_up_sound channels (take channels names) blocks ≡ false
  unfolding set_up_sound
  unnamed e = rw (le-leb _ _ few, ← from_zero channels names, e)

  module _ (good : good_channels (take (channels - 0) names) ≡ true) where
    no_store : blocks ≡ 0 → set_up_sound channels (take channels names) blocks ≡ false
    unfolding set_up_sound
    no_store e = rw (le-leb _ _ few, ← from_zero channels names, good, e)

    store : 1 ≤ blocks → set_up_sound channels (take channels names) blocks ≡ leb blocks 4096
    unfolding set_up_sound
    store l = rw (le-leb _ _ few, ← from_zero channels names, good, le-leb _ _ l)

pub returns-then-channels-gt-MOST_CHANNELS : goal.returns-then-channels-gt-MOST_CHANNELS
unfolding set_up_sound
returns-then-channels-gt-MOST_CHANNELS c = search tests

pub returns-then-not-good_channels : goal.returns-then-not-good_channels
returns-then-not-good_channels c =
    sym (unnamed _ c.args.names _ (omega arith) (sym c.good_channels.ensures ∙ c.if-not-good_channels.true))

pub returns-then-blocks-eq0 : goal.returns-then-blocks-eq0
returns-then-blocks-eq0 c =
    sym (no_store _ c.args.names _ (omega arith) (search granted) (omega arith))

pub returns : goal.returns
returns c =
    sym (store _ c.args.names _ (omega arith) (search granted) (omega arith))
