-- Where a packet's data is written: in a block that the slot has. Assumes nothing.
use mathlib.Core.Path.{◌≡◌}
use mathlib.Core.Bool.{false}
use mathlib.Core.List.{List}
use Prim.Native.Nat.{ℕ, suc, ◌+◌, ◌≤◌, ◌<◌}
use native.Mathlib.Numerals.{add-one}
use native.Mathlib.Omega.{arith}
use lib.ListN.{length, get_or, take, length-take}
use Rattle.state.specs.declared.Slot.{Slot}
use Rattle.state.specs.declared.Station.{Station}
use Rattle.state.specs.Slots.{slot_at, held, need_of}
use Rattle.state.specs.Blocks.{numbers_of, blocks_of, room}
use Rattle.state.specs.Sound.{Sized, Sound}
use Rattle.state.proofs.Blocks.{entry-low, numbers-few}
use Rattle.room.specs.Move.{opened}
use Rattle.room.proofs.Keeps.{opened-refiles, opened-count}
use Rattle.judge.proofs.Keeps.{Stays, stays-refiled}

-- the block at a place that slot k has, as the code finds it, is one of the n of the store
module _ (owner : List ℕ) (n k place : ℕ) {b : ℕ} (found : b ≡ get_or (numbers_of (k + 1) 0 (take n owner)) place 0) where
  pub block-is : b ≡ get_or (numbers_of (suc k) 0 (take n owner)) place 0
  block-is = rw add-one at found

  pub block-low : place < length (numbers_of (suc k) 0 (take n owner)) → b < n
  block-low low = omega (arith, block-is, entry-low (suc k) (take n owner) place low, length-take n owner)

-- a slot has no more blocks than the store
pub blocks-few : (n : ℕ) (owner : List ℕ) (k : ℕ) → length (numbers_of (suc k) 0 (take n owner)) ≤ n
blocks-few n owner k = omega (arith, numbers-few (suc k) 0 (take n owner), length-take n owner)

-- a file just opened: the store is the same, and there is a first block
module _ {s t : Station} (k : ℕ) (x : Slot) (z : Sized s) (S : Sound s) (e : t ≡ opened s k x) where
  stays : Stays s t
  stays = rw e (stays-refiled (opened-refiles s k x))

  pub opened-owners : t.blocks ≤ length t.owner
  opened-owners = omega (arith, stays.blocks, stays.owners, z.owner, S.set_up.least)

  pub opened-first : held (slot_at s k) ≡ false → 1 ≤ need_of x → need_of x ≤ room s → 0 < length (blocks_of t k)
  opened-first free some fits = rw e (omega (arith, opened-count s k x z S free fits))
