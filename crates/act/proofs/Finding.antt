-- What the functions learn from what was decided: a place that was found, a file that was found. Assumes nothing.
use Rattle.std.specs.Prelude.{Some}
use mathlib.Core.Path.{◌≡◌}
use mathlib.Core.Bool.{false}
use mathlib.Core.List.{List}
use Prim.Native.Nat.{ℕ, ◌≤◌, ◌<◌}
use native.Mathlib.Omega.{arith}
use lib.ListN.{set}
use Rattle.frame.specs.declared.Channel.{Channel}
use Rattle.packet.specs.declared.Application.{Application}
use Rattle.transport.specs.declared.Transport.{Transport}
use Rattle.transport.specs.Length.{need}
use Rattle.transport.specs.Shape.{begun_of}
use Rattle.state.specs.declared.Station.{Station}
use Rattle.state.specs.Slots.{no_file, slot_at, held}
use Rattle.state.specs.Blocks.{room}
use Rattle.state.specs.Sound.{Sized, Sound}
use Rattle.room.specs.Find.{free_from, free_slot, file_from, file_of}
use Rattle.room.specs.Move.{let_go}
use Rattle.room.proofs.Find.{free-at}
use Rattle.room.proofs.Keeps.{refiled-sized, let_go-refiles}
use Rattle.judge.specs.declared.Place.TheVariants.{Granted}
use Rattle.judge.specs.Ruling.{place_of}
use Rattle.judge.proofs.Parts.{begun-right}
use Rattle.judge.proofs.Keeps.{Going, file-going}
use Rattle.judge.proofs.Rulings.{Placed, granted-known}

-- a file that was placed: its slot is free, and there is room
pub record Fresh (s : Station) (k : ℕ) (t : Transport) : Type 0 where
  pub low : k < 32
  pub free : held (slot_at s k) ≡ false
  pub some : 1 ≤ need t.bits
  pub fits : need t.bits ≤ room s

free-found : (s : Station) {k : ℕ} → free_from 0 s.slots ≡ Some k → free_slot s ≡ Some k
unfolding free_slot
free-found s e = e

pub placed-fresh : (s : Station) → Sized s → (flags : ℕ) (d : List ℕ) {k : ℕ} {t : Transport} → Placed s.blocks s.slots (begun_of flags d) k t
    → Fresh s k t
placed-fresh s z flags d {k} p =
    let slot = free-at s k (free-found s p.free) in
    record { low = omega (arith, slot.low, z.slots); free = slot.free; some = (begun-right flags d p.right).some; fits = p.fits }

-- the incomplete file of a pair
file-found : (s : Station) (c : Channel) (a : Application) {k : ℕ} → file_from 0 c a s.slots ≡ Some k → file_of s c a ≡ Some k
unfolding file_of
file-found s c a e = e

pub found-going : (s : Station) → Sized s → Sound s → (c : Channel) (a : Application) {k : ℕ} → file_from 0 c a s.slots ≡ Some k → Going s c a k
found-going s z S c a e = file-going z S c a (file-found s c a e)

-- a file that was placed as if the one of slot k were gone, once it is
pub left-fresh : (s : Station) {t : Station} → Sized s → (k flags : ℕ) (d : List ℕ) → t ≡ let_go s k → {j : ℕ} {x : Transport}
    → place_of s.blocks (set s.slots k no_file) (begun_of flags d) ≡ Granted j x → Fresh t j x
unfolding let_go
left-fresh s z k flags d o g =
    rw o (placed-fresh (let_go s k) (refiled-sized (let_go-refiles s k) z) flags d (granted-known g))
