-- Whether a packet that starts a file finds a slot, and room. Assumes nothing.
use Rattle.std.specs.Prelude.{Option, Some, None}
use mathlib.Core.Path.{◌≡◌, refl, sym, ap, subst, ◌∙◌}
use mathlib.Core.Bool.{true, true≢false}
use mathlib.Core.Logic.{◌↔◌}
use mathlib.Core.List.{List}
use Prim.Native.Nat.{ℕ, ◌-◌, ◌<◌}
use native.Mathlib.Omega.{arith}
use lib.ListN.{length}
use Rattle.frame.specs.declared.Channel.{Channel}
use Rattle.packet.specs.Header.{packet_of}
use Rattle.transport.specs.declared.Transport.{Transport}
use Rattle.transport.specs.Length.{need}
use Rattle.state.specs.declared.Slot.{Slot}
use Rattle.state.specs.declared.Station.{Station}
use Rattle.state.specs.Slots.{slot_at, held, need_of}
use Rattle.state.specs.Blocks.{blocks_of, needs, room}
use Rattle.state.specs.Sound.{Sized, Sound}
use Rattle.state.proofs.Places.{needs-fit}
use Rattle.room.specs.Find.{free_slot, file_of}
use Rattle.room.specs.Move.{let_go}
use Rattle.room.proofs.Find.{free-at, free-nowhere}
use Rattle.room.proofs.Keeps.{refiled-slot, refiled-sized, let_go-refiles, let_go-sound, let_go-room, accepted-held}
use Rattle.events.specs.Event.{of, at, Among}
use Rattle.judge.specs.Judge.{first_slot, judged}
use Rattle.judge.specs.Packets.{Starts}
use Rattle.judge.specs.Contract.{Watched}
use Rattle.judge.proofs.Keeps.{file-going, stays-refiled}
use Rattle.judge.proofs.Steps.{rid}
use Rattle.judge.proofs.Exact.{cleared, Given, given-exactly, too-large-exactly, opened-exactly}
use Rattle.judge.proofs.Exact.Given.{all_held, opened}
use Rattle.history.specs.Store.{station_at, store_at, need_at, room_for, RoomExactly, EveryPacket, FromTheFirst, RefusedForRoom}
use Rattle.history.specs.Things.{did}
use Rattle.history.specs.Things.Thing.{packet}
use Rattle.history.proofs.Moments.{Settled, did-settled, moment-settled}
use Rattle.history.proofs.Follows.{opened-slot}
use Rattle.history.proofs.Blocks.{moment-packet}
use Rattle.history.proofs.Turns.{none-held}

pub unless : (f : Option ℕ) {g : Option ℕ} → g ≡ f → ((k : ℕ) → g ≡ Some k → ⊥) → g ≡ None
unless (Some k) e n = absurd (n k e)
unless None e n = e

pub never : {k : ℕ} → Some k ≡ None → ⊥
never e =
    let z : ◌≡◌ {A = ℕ} 0 1 = cc in
    omega arith

module _ {s : Station} (z : Sized s) (S : Sound s) (c : Channel) (p : List ℕ) where
  -- the free blocks once an older file of the pair is ended
  pub room-cleared : room (cleared c s p) ≡ room_for s c p
  room-cleared = by (file_of s c (packet_of p).application) refl
    where
      by : (f : Option ℕ) → file_of s c (packet_of p).application ≡ f → room (rid s f) ≡ s.blocks - (needs s.slots - need_at s f)
      by None e = omega arith
      by (Some k) e =
          let g = file-going z S c (packet_of p).application e in
          let r = let_go-refiles s k in
          omega (
            arith,
            let_go-room z S g.low g.held,
            needs-fit z S,
            needs-fit (refiled-sized r z) (let_go-sound z S g.low),
            (stays-refiled r).blocks,
          )

  pub cleared-sized : Sized (cleared c s p)
  cleared-sized = by (file_of s c (packet_of p).application)
    where
      by : (f : Option ℕ) → Sized (rid s f)
      by None = z
      by (Some k) = refiled-sized (let_go-refiles s k) z

  -- no slot is free then exactly if none was, and no older file has left one
  none_free : (free_slot (cleared c s p) ≡ None)
      ↔ ((file_of s c (packet_of p).application ≡ None) × ((k : ℕ) → k < 32 → held (slot_at s k) ≡ true))
  none_free = by (file_of s c (packet_of p).application) refl
    where
      by : (f : Option ℕ) → file_of s c (packet_of p).application ≡ f
          → (free_slot (rid s f) ≡ None) ↔ ((f ≡ None) × ((k : ℕ) → k < 32 → held (slot_at s k) ≡ true))
      by None e = (
        λ q. (refl, λ k l. free-nowhere s q k (omega (arith, z.slots))),
        λ (q, all). unless (free_slot s) refl (λ k f. true≢false (sym (all k (omega (arith, (free-at s k f).low, z.slots))) ∙ (free-at s k f).free)),
      )
      by (Some k) e =
          let g = file-going z S c (packet_of p).application e in
          let r = let_go-refiles s k in (
            λ q.
                absurd
                (true≢false
                (sym (free-nowhere (let_go s k) q k (omega (arith, g.low, (refiled-sized r z).slots))) ∙ ap held (refiled-slot r z g.low) ∙ none-held)),
            λ (q, all). absurd (never q),
          )

module _ {s : Station} {store : List ℕ} (h : Settled s store) (c : Channel) (p : List ℕ) {t : Transport} (start : Starts p t) where
  eight-exactly : Among (of 8 (packet_of p).application.0) (judged c s store p).events ↔ (free_slot (cleared c s p) ≡ None)
  eight-exactly = (
    λ m. by ((given-exactly c s store p (of 8 (packet_of p).application.0)).0 m).reason,
    λ e. (given-exactly c s store p (of 8 (packet_of p).application.0)).1 (record { application = refl; reason = all_held start e }),
  )
    where
      by : Given c s p 8 0 → free_slot (cleared c s p) ≡ None
      by (all_held g' e) = e

  some-slot : (free_slot (cleared c s p) ≡ None → ⊥) → (k : ℕ) × (free_slot (cleared c s p) ≡ Some k)
  some-slot n = by (free_slot (cleared c s p)) refl
    where
      by : (f : Option ℕ) → free_slot (cleared c s p) ≡ f → (k : ℕ) × (free_slot (cleared c s p) ≡ Some k)
      by (Some k) e = (k, e)
      by None e = absurd (n e)

  -- event 10 names the lowest free slot
  opened-at : {j k : ℕ} → free_slot (cleared c s p) ≡ Some j → Among (at 10 (packet_of p).application.0 k) (judged c s store p).events → k ≡ j
  opened-at {j} {k} f m = by ((given-exactly c s store p (at 10 (packet_of p).application.0 k)).0 m).reason
    where
      by : Given c s p 10 k → k ≡ j
      by (opened g' f' l) = cc

  pub room-exactly : RoomExactly s store c p (need t.bits)
  room-exactly =
      let free = none_free h.sized h.sound c p in
      let same = room-cleared h.sized h.sound c p in
      record {
        no_slot = (λ m. free.0 (eight-exactly.0 m), λ e. eight-exactly.1 (free.1 e));
        no_room =
            λ n.
            let (j, f) = some-slot (λ e. n (eight-exactly.1 e)) in
            let x = too-large-exactly c s store p start f in
            (λ m. rw same at (x.0 m), λ l. x.1 (rw same l));
        opened =
            λ n.
            let (j, f) = some-slot (λ e. n (eight-exactly.1 e)) in
            let x = opened-exactly c s store p start f in (
              λ (k, low, m).
                  rw same
                  at (x.0 (subst (λ (i : ℕ). Among (at 10 (packet_of p).application.0 i) (judged c s store p).events) (opened-at f m) m)),
              λ l.
                  (j, omega (arith, (free-at (cleared c s p) j f).low, (cleared-sized h.sized h.sound c p).slots), x.1 (rw same l)),
            );
      }

-- "A packet that starts a file and passes every earlier check is refused for room exactly if N exceeds all blocks less the needs of the
-- held files, an older file that it has just ended not counted."
pub refused-for-room-exactly : EveryPacket RefusedForRoom
refused-for-room-exactly m t g = room-exactly (moment-settled m) m.channel m.p g

-- "A file needing N blocks holds N from its first packet"
module _ {s : Station} {store : List ℕ} (h : Settled s store) (c : Channel) (p : List ℕ) (w : Watched s c) (k : ℕ) where
  opened-first : Among (at 10 (packet_of p).application.0 k) (judged c s store p).events → Given c s p 10 k
      → (t : Transport) × Starts p t × (slot_at (judged c s store p).station k ≡ first_slot c (packet_of p) t)
      × (length (blocks_of (judged c s store p).station k) ≡ need t.bits)
  unfolding did
  opened-first n (opened {t} start f l) =
      let j = judged c s store p in
      let then = did-settled (packet c p) h w in
      let slot : slot_at j.station k ≡ first_slot c (packet_of p) t = opened-slot h k c p n start.right in
      let one : (slot_at j.station k).accepted ≡ 1 = ap (λ (x : Slot). x.accepted) slot in
      let low : k < 32 = omega (arith, (free-at (cleared c s p) k f).low, (cleared-sized h.sized h.sound c p).slots) in (
        t,
        start,
        slot,
        (then.sound.files k low (accepted-held (slot_at j.station k) (omega arith))).places ∙ ap need_of slot,
      )

pub from-the-first : EveryPacket FromTheFirst
from-the-first m k n =
    opened-first (moment-settled m) m.channel m.p (moment-packet m).watched k n
    ((given-exactly m.channel (station_at m) (store_at m) m.p (at 10 (packet_of m.p).application.0 k)).0 n).reason
