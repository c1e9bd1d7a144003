-- The store lent to a call on a file, and the room in the file's blocks. Assumes nothing.
use mathlib.Core.Path.{◌≡◌}
use mathlib.Core.Bool.{true, ◌&&◌}
use mathlib.Core.List.{List}
use Prim.Native.Nat.{ℕ, ◌+◌, ◌*◌, ◌≤◌, ◌<◌}
use native.Mathlib.Omega.{arith}
use borrow.Author.Tests.{eqb-true}
use lib.Dec.{leb}
use lib.ListN.{length}
use Rattle.octets.proofs.Tests.{and_right}
use Rattle.transport.specs.Length.{octets_of_bits}
use Rattle.transport.proofs.Length.{size-sum, need-covers}
use Rattle.state.specs.declared.Station.{Station}
use Rattle.state.specs.Slots.{slot_at, complete}
use Rattle.state.specs.Blocks.{blocks_of}
use Rattle.state.specs.Sound.{Sized}
use Rattle.state.specs.Decision.{is_sound}
use Rattle.state.proofs.Exactly.{sound-yes}
use Rattle.station.specs.Files.{store_fits}
use Rattle.station.proofs.Asking.{complete-held}

-- the store lent is the state's
pub fits-store : (blocks : ℕ) (store : List ℕ) → store_fits blocks store ≡ true → length store ≡ 8190 * blocks
fits-store blocks store e = eqb-true (length store) (8190 * blocks) (and_right (leb 1 blocks && leb blocks 4096) _ e)

-- the blocks of a complete file have room for it and for the ten octets in front of it
pub file-room : {s : Station} {k : ℕ} → Sized s → is_sound s ≡ true → k < 32 → complete (slot_at s k) ≡ true
    → 10 + octets_of_bits (slot_at s k).bits ≤ 8190 * length (blocks_of s k)
file-room {s} {k} z sound low whole =
    let L = (slot_at s k).bits in
    rw ((sound-yes z sound).files k low (complete-held (slot_at s k) whole)).places (omega (arith, size-sum L, need-covers L))
