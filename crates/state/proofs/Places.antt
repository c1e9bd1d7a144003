-- "each block is free or stands at one place of one held slot; a held slot with need N has places 0 to N-1 once each", and the room that
-- this leaves. Assumes nothing.
use Rattle.std.specs.Prelude.{if◌then◌else◌}
use mathlib.Core.Path.{◌≡◌, refl, sym, ap, ap₂, ◌∙◌}
use mathlib.Core.Bool.{true}
use mathlib.Core.Logic.{◌⊎◌, inl, inr}
use mathlib.Core.List.{List, [], ◌∷◌}
use Prim.Native.Nat.{ℕ, zero, suc, ◌+◌, ◌≤◌, ◌<◌}
use native.Mathlib.Nat.{zero-add}
use native.Mathlib.Omega.{arith}
use lib.ListN.{length, get_or, length-take}
use Rattle.octets.proofs.Lists.{if-cases}
use Rattle.state.specs.declared.Slot.{Slot}
use Rattle.state.specs.declared.Station.{Station}
use Rattle.state.specs.Slots.{slot_at, no_file, held, need_of}
use Rattle.state.specs.Blocks.{table, free_blocks, blocks_of, Stands, needs, room}
use Rattle.state.specs.Sound.{Sized, Sound}
use Rattle.state.specs.Decision.{block_counts}
use Rattle.state.proofs.Blocks.{rank, rank-low, rank-here, rank-of, entry-low, entry_here, total, length-counts, counts-at, counting}
use Rattle.state.proofs.Exactly.{table-length, owner-held, owner-most, free-owns-none}

-- a block that stands somewhere is a block of the store, belongs to that slot, and has its rank for its place
module _ {s : Station} {b k i : ℕ} (h : Stands s b k i) where
  pub stands-low : b < s.blocks
  stands-low = omega (arith, h.here, entry-low (suc k) (table s) i h.low, length-take s.blocks s.owner)

  pub stands-owner : get_or (table s) b 0 ≡ suc k
  stands-owner = rw h.here at (entry_here (suc k) (table s) i h.low)

  pub stands-taken : get_or (table s) b 0 ≡ 0 → ⊥
  stands-taken e = omega (arith, stands-owner)

  pub stands-rank : rank (suc k) b (table s) ≡ i
  stands-rank = rw h.here at (rank-of (suc k) (table s) i h.low)

-- no block stands at two places
pub stands-once : {s : Station} {b k k' i i' : ℕ} → Stands s b k i → Stands s b k' i' → (k ≡ k') × (i ≡ i')
stands-once {s} {b} {k} {k'} g h =
    let same : k ≡ k' = omega (arith, stands-owner g, stands-owner h) in
    (same, sym (stands-rank g) ∙ ap (λ (j : ℕ). rank (suc j) b (table s)) same ∙ stands-rank h)

-- a block that belongs to a slot stands at its rank
pub owner-stands : (s : Station) (b k : ℕ) → b < length (table s) → get_or (table s) b 0 ≡ suc k → Stands s b k (rank (suc k) b (table s))
owner-stands s b k l e = record { low = rank-low (suc k) 0 (table s) b l e; here = rank-here (suc k) 0 (table s) b l e ∙ zero-add b }

-- it stands in a held slot, at a place below the need
module _ {s : Station} (S : Sound s) {b k i : ℕ} (h : Stands s b k i) where
  pub stands-held : (k < 32) × (held (slot_at s k) ≡ true)
  stands-held = owner-held S b k (stands-low h) (stands-owner h)

  pub stands-needed : i < need_of (slot_at s k)
  stands-needed = omega (arith, h.low, (S.files k stands-held.0 stands-held.1).places)

needs-total : (xs : List Slot) (ns : List ℕ) → length ns ≡ length xs
    → ((k : ℕ) → k < length xs → get_or ns k 0 ≡ (if held (get_or xs k no_file) then need_of (get_or xs k no_file) else 0)) → total ns ≡ needs xs
unfolding needs total
needs-total [] [] e f = refl
needs-total [] (n ∷ ns) e f = absurd (omega arith)
needs-total (x ∷ xs) [] e f = absurd (omega arith)
needs-total (x ∷ xs) (n ∷ ns) e f = ap₂ ◌+◌ (f 0 (omega arith)) (needs-total xs ns (omega arith) (λ k l. f (suc k) (omega arith)))

module _ {s : Station} (z : Sized s) (S : Sound s) where
  owners : length (table s) ≡ s.blocks
  owners = table-length z S.set_up.least

  -- "each block is free or stands at one place of one held slot"
  pub free-or-stands : (b : ℕ) → b < s.blocks
      → (get_or (table s) b 0 ≡ 0) ⊎ ((k : ℕ) × (i : ℕ) × (k < 32) × (held (slot_at s k) ≡ true) × Stands s b k i)
  free-or-stands b l = by (get_or (table s) b 0) refl
    where
      by : (o : ℕ) → get_or (table s) b 0 ≡ o
          → (get_or (table s) b 0 ≡ 0) ⊎ ((k : ℕ) × (i : ℕ) × (k < 32) × (held (slot_at s k) ≡ true) × Stands s b k i)
      by zero e = inl e
      by (suc k) e =
          let owner = owner-held S b k l e in
          inr (k, rank (suc k) b (table s), owner.0, owner.1, owner-stands s b k (omega (arith, owners)) e)

  -- "a held slot with need N has places 0 to N-1 once each"
  pub places-once-each : (k : ℕ) → k < 32 → held (slot_at s k) ≡ true → (i : ℕ) → i < need_of (slot_at s k)
      → (b : ℕ) × Stands s b k i × ((b' : ℕ) → Stands s b' k i → b' ≡ b)
  places-once-each k l e i m =
      (get_or (blocks_of s k) i 0, record { low = omega (arith, (S.files k l e).places); here = refl }, λ b h. sym h.here)

  -- held slots own what they need, and free ones nothing
  slot_owns : (k : ℕ) → k < 32 → length (blocks_of s k) ≡ (if held (slot_at s k) then need_of (slot_at s k) else 0)
  slot_owns k l =
      if-cases (λ (n : ℕ). length (blocks_of s k) ≡ n) (held (slot_at s k)) (λ e. (S.files k l e).places) (free-owns-none s z S k)

  needs-owned : total (block_counts (table s) 0 32) ≡ needs s.slots
  needs-owned =
      let ns = block_counts (table s) 0 32 in
      needs-total s.slots ns (length-counts (table s) 0 32 ∙ sym z.slots)
      (λ k l.
      let low : k < 32 = omega (arith, z.slots) in
      counts-at (table s) 0 32 k low ∙ rw zero-add (slot_owns k low))

  -- the free blocks are all blocks less the needs of the held files
  all_blocks : s.blocks ≡ length (free_blocks s) + needs s.slots
  all_blocks =
      sym owners ∙ counting 32 (table s) (λ b l. owner-most S b (omega (arith, owners)))
      ∙ ap (λ (n : ℕ). length (free_blocks s) + n) needs-owned

  pub needs-fit : needs s.slots ≤ s.blocks
  needs-fit = omega (arith, all_blocks)

  pub free-room : length (free_blocks s) ≡ room s
  free-room = omega (arith, all_blocks)
