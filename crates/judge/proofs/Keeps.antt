-- What a packet leaves as it was, and that it keeps a sound state sound. Assumes nothing.
use Rattle.std.specs.Prelude.{Some, None}
use mathlib.Core.Path.{◌≡◌, refl, ap, ◌∙◌}
use mathlib.Core.Bool.{true, not}
use mathlib.Core.List.{List}
use Prim.Native.Nat.{ℕ, ◌*◌, ◌≤◌, ◌<◌}
use native.Mathlib.Omega.{arith}
use borrow.Author.Tests.{eqb-false, not-true}
use lib.Dec.{eqb}
use lib.ListN.{length, get_or, take, drop, length-set}
use Rattle.octets.proofs.Numbers.{bits_at-below}
use Rattle.octets.proofs.Put.{length-put}
use Rattle.octets.proofs.Tests.{and_left, and_right}
use Rattle.frame.specs.declared.Channel.{Channel}
use Rattle.packet.specs.declared.Application.{Application}
use Rattle.packet.specs.declared.Packet.{Packet}
use Rattle.packet.specs.Header.{packet_of}
use Rattle.transport.specs.declared.Transport.{Transport}
use Rattle.transport.specs.Length.{need}
use Rattle.transport.specs.Shape.{begun_of}
use Rattle.state.specs.declared.Slot.{Slot}
use Rattle.state.specs.declared.Station.{Station}
use Rattle.state.specs.Slots.{slot_at, held, incomplete, need_of, of_pair}
use Rattle.state.specs.Blocks.{blocks_of, room}
use Rattle.state.specs.Sound.{Sized, Sound, DesksSound}
use Rattle.room.specs.Find.{free_slot, file_of}
use Rattle.room.specs.Move.{opened}
use Rattle.room.proofs.Find.{free-at, file-at}
use Rattle.room.proofs.Keeps.{Refiled, refiled-sized, Opening, opened-refiles, opened-sound, let_go-refiles, let_go-sound, let_go-alone, Next, next-refiles, next-sound}
use Rattle.judge.specs.Judge.{Judged, data_of, written, first_slot, next_slot, judged}
use Rattle.judge.specs.Contract.{Watched}
use Rattle.judge.proofs.Parts.{Begins, Judges, judges-as, begun-right}
use Rattle.judge.proofs.Parts.Begins.{wrong-shape, no_slot, no_room, opens_at}
use Rattle.judge.proofs.Parts.Judges.{fill, other, damaged, begins-new, begins-over, stray, goes_onward, breaks-off}

-- t is s but for files and their blocks
pub record Stays (s t : Station) : Type 0 where
  pub spacecraft : t.spacecraft ≡ s.spacecraft
  pub channels : t.channels ≡ s.channels
  pub watched : t.watched ≡ s.watched
  pub desks : t.desks ≡ s.desks
  pub blocks : t.blocks ≡ s.blocks
  pub owners : length t.owner ≡ length s.owner
  pub slots : length t.slots ≡ length s.slots
  -- what the array of owners holds past the number of blocks
  pub past : drop s.blocks t.owner ≡ drop s.blocks s.owner

pub stays_all : (s : Station) → Stays s s
stays_all s = record { spacecraft = refl; channels = refl; watched = refl; desks = refl; blocks = refl; owners = refl; slots = refl; past = refl }

pub stays_then : {s t u : Station} → Stays s t → Stays t u → Stays s u
stays_then {s} {t} {u} a b =
    record {
      spacecraft = b.spacecraft ∙ a.spacecraft;
      channels = b.channels ∙ a.channels;
      watched = b.watched ∙ a.watched;
      desks = b.desks ∙ a.desks;
      blocks = b.blocks ∙ a.blocks;
      owners = b.owners ∙ a.owners;
      slots = b.slots ∙ a.slots;
      past = rw a.blocks at b.past ∙ a.past;
    }

pub stays-refiled : {s t : Station} {k : ℕ} {x : Slot} → Refiled s k x t → Stays s t
stays-refiled {s} {k} {x} r =
    record {
      spacecraft = ap (λ (u : Station). u.spacecraft) r.frame;
      channels = ap (λ (u : Station). u.channels) r.frame;
      watched = ap (λ (u : Station). u.watched) r.frame;
      desks = ap (λ (u : Station). u.desks) r.frame;
      blocks = ap (λ (u : Station). u.blocks) r.frame;
      owners = r.long;
      slots = ap (λ (u : Station). length u.slots) r.frame ∙ length-set s.slots k x;
      past = r.past;
    }

module _ {s t : Station} (a : Stays s t) where
  pub stays-sized : Sized s → Sized t
  stays-sized z =
      record {
        watched = rw a.watched z.watched;
        desks = rw a.desks z.desks;
        owner = a.owners ∙ z.owner;
        slots = a.slots ∙ z.slots;
      }

  pub stays-watched : {c : Channel} → Watched s c → Watched t c
  stays-watched w = record { place = w.place; low = rw a.channels w.low; here = rw (a.channels, a.watched) w.here }

  pub stays-desks : (desks : List ℕ) → DesksSound s desks → DesksSound t desks
  stays-desks desks d = record { octets = λ i l. rw a.desks (d.octets i (rw a.channels at l)) }

begins-stays : {c : Channel} {s : Station} {store : List ℕ} {h : Packet} {d : List ℕ} {j : Judged} → Begins c s store h d j → Stays s j.station
begins-stays {s} (wrong-shape e) = stays_all s
begins-stays {s} (no_slot e f) = stays_all s
begins-stays {s} (no_room e f l) = stays_all s
begins-stays {c} {s} {h} (opens_at {t} {k} e f l) = stays-refiled (opened-refiles s k (first_slot c h t))

judges-stays : {c : Channel} {s : Station} {store p : List ℕ} {j : Judged} → Judges c s store p j → Stays s j.station
judges-stays {s} (fill l) = stays_all s
judges-stays {s} (other l m) = stays_all s
judges-stays {s} (damaged l e) = stays_all s
judges-stays (begins-new u e f b) = begins-stays b
judges-stays {s} (begins-over u e {k} f b) = stays_then (stays-refiled (let_go-refiles s k)) (begins-stays b)
judges-stays {s} (stray u e f) = stays_all s
judges-stays {s} {p} (goes_onward u e {k} f g) = stays-refiled (next-refiles s k (next_slot (slot_at s k) (packet_of p)))
judges-stays {s} (breaks-off u e {k} f g) = stays-refiled (let_go-refiles s k)

module _ (c : Channel) (s : Station) (store p : List ℕ) where
  pub judged-stays : Stays s (judged c s store p).station
  judged-stays = judges-stays (judges-as c s store p)

  pub judged-sized : Sized s → Sized (judged c s store p).station
  judged-sized = stays-sized judged-stays

-- the store keeps its length
written-long : (s : Station) (k i : ℕ) (d store : List ℕ) → length (written s k i d store) ≡ length store
unfolding written
written-long s k i d store = length-put store (8190 * get_or (blocks_of s k) i 0) d

begins-long : {c : Channel} {s : Station} {store : List ℕ} {h : Packet} {d : List ℕ} {j : Judged} → Begins c s store h d j
    → length j.store ≡ length store
begins-long (wrong-shape e) = refl
begins-long (no_slot e f) = refl
begins-long (no_room e f l) = refl
begins-long {c} {s} {store} {h} {d} (opens_at {t} {k} e f l) = written-long (opened s k (first_slot c h t)) k 0 d store

judges-long : {c : Channel} {s : Station} {store p : List ℕ} {j : Judged} → Judges c s store p j → length j.store ≡ length store
judges-long (fill l) = refl
judges-long (other l m) = refl
judges-long (damaged l e) = refl
judges-long (begins-new u e f b) = begins-long b
judges-long (begins-over u e f b) = begins-long b
judges-long (stray u e f) = refl
judges-long {s} {store} {p} (goes_onward u e {k} f g) = written-long s k (slot_at s k).accepted (data_of p) store
judges-long (breaks-off u e f g) = refl

pub judged-store : (c : Channel) (s : Station) (store p : List ℕ) → length (judged c s store p).store ≡ length store
judged-store c s store p = judges-long (judges-as c s store p)

-- an incomplete file of a pair, in slot k of a sound state
pub record Going (s : Station) (c : Channel) (a : Application) (k : ℕ) : Type 0 where
  pub low : k < 32
  pub held : held (slot_at s k) ≡ true
  pub incomplete : incomplete (slot_at s k) ≡ true
  pub pair : of_pair c a (slot_at s k) ≡ true
  pub less : (slot_at s k).accepted < need_of (slot_at s k)
  pub places : length (blocks_of s k) ≡ need_of (slot_at s k)

incomplete-held : (x : Slot) → incomplete x ≡ true → held x ≡ true
unfolding incomplete
incomplete-held x e = and_left (held x) (not (eqb x.accepted (need_of x))) e

incomplete-less : (x : Slot) → incomplete x ≡ true → x.accepted ≤ need_of x → x.accepted < need_of x
unfolding incomplete
incomplete-less x e l =
    let f = eqb-false x.accepted (need_of x) (not-true (eqb x.accepted (need_of x)) (and_right (held x) (not (eqb x.accepted (need_of x))) e)) in
    omega arith

pub packet-count : (p : List ℕ) → (packet_of p).count.0 < 16384
unfolding packet_of
packet-count p = bits_at-below (take 6 p) 18 14

module _ {s : Station} (z : Sized s) (S : Sound s) where
  pub file-going : (c : Channel) (a : Application) {k : ℕ} → file_of s c a ≡ Some k → Going s c a k
  file-going c a {k} e =
      let f = file-at s c a k e in
      let low : k < 32 = omega (arith, f.low, z.slots) in
      let h = incomplete-held (slot_at s k) f.incomplete in
      let file = S.files k low h in
      record {
        low = low;
        held = h;
        incomplete = f.incomplete;
        pair = f.pair;
        less = incomplete-less (slot_at s k) f.incomplete file.accepted;
        places = file.places;
      }

  module _ {c : Channel} (h : Packet) (count : h.count.0 < 16384) where
    -- a file that begins, of a pair that has no other
    pub first_opening : Watched s c → h.application.0 ≤ 2015 → file_of s c h.application ≡ None
        → (d : List ℕ) {t : Transport} {k : ℕ} → begun_of h.flags d ≡ Some t → free_slot s ≡ Some k → need t.bits ≤ room s
        → Opening s k (first_slot c h t)
    first_opening w l n d {t} {k} e f fits =
        let right = begun-right h.flags d e in
        let free = free-at s k f in
        record {
          low = omega (arith, free.low, z.slots);
          free = free.free;
          fit =
              record {
                some = omega arith;
                accepted = right.some;
                watched = (w.place, w.low, w.here);
                application = l;
                bits = right.good;
                count = count;
              };
          fits = fits;
          alone = λ i. n;
        }

    -- a packet more
    pub next-going : {k : ℕ} → Going s c h.application k → Next s k (next_slot (slot_at s k) h)
    next-going g =
        record {
          low = g.low;
          held = g.held;
          channel = refl;
          application = refl;
          bits = refl;
          some = omega arith;
          accepted = omega (arith, g.less);
          count = count;
          going = λ i. g.incomplete;
        }

    begins-sound : Watched s c → h.application.0 ≤ 2015 → file_of s c h.application ≡ None
        → {store d : List ℕ} {j : Judged} → Begins c s store h d j → Sound j.station
    begins-sound w l n (wrong-shape e) = S
    begins-sound w l n (no_slot e f) = S
    begins-sound w l n (no_room e f m) = S
    begins-sound w l n {d} (opens_at e f m) = opened-sound z S (first_opening w l n d e f m)

module _ {c : Channel} {s : Station} {store p : List ℕ} (z : Sized s) (S : Sound s) (w : Watched s c) where
  judges-sound : {j : Judged} → Judges c s store p j → Sound j.station
  judges-sound (fill l) = S
  judges-sound (other l m) = S
  judges-sound (damaged l e) = S
  judges-sound (begins-new u e f b) = begins-sound z S (packet_of p) (packet-count p) w u.file f b
  judges-sound (begins-over u e {k} f b) =
      let r = let_go-refiles s k in
      let low = (file-going z S c (packet_of p).application f).low in
      begins-sound (refiled-sized r z) (let_go-sound z S low) (packet_of p) (packet-count p) (stays-watched (stays-refiled r) w) u.file
      (let_go-alone z S low c (packet_of p).application f) b
  judges-sound (stray u e f) = S
  judges-sound (goes_onward u e f g) = next-sound z S (next-going z S (packet_of p) (packet-count p) (file-going z S c (packet_of p).application f))
  judges-sound (breaks-off u e f g) = let_go-sound z S (file-going z S c (packet_of p).application f).low

-- THE law that a sound state stays sound
pub judged-sound : (c : Channel) (s : Station) (store p : List ℕ) → Sized s → Sound s → Watched s c → Sound (judged c s store p).station
judged-sound c s store p z S w = judges-sound z S w (judges-as c s store p)
