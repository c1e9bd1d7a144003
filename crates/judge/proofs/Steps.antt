-- What a packet does to one slot, its blocks, their octets and the events that name it: nothing, or one of four things. Assumes nothing.
use Rattle.std.specs.Prelude.{if◌then◌else◌, Option, Some, None}
use mathlib.Core.Path.{◌≡◌, refl, sym, ap, ◌∙◌}
use mathlib.Core.Bool.{Bool, true, false, ◌&&◌, ◌||◌, and-false}
use mathlib.Core.Logic.{◌⊎◌, inl, inr}
use mathlib.Core.List.{List, [], ◌∷◌, ◌++◌}
use Prim.Native.Nat.{ℕ, ◌+◌, ◌*◌, ◌≤◌, ◌<◌}
use native.Mathlib.Nat.{add-zero, zero-add}
use native.Mathlib.Decide.{ℕ_discrete, dec_lt}
use native.Mathlib.Omega.{arith}
use borrow.Author.Tests.{eq-eqb, ne_eqb}
use lib.Dec.{eqb, leb}
use lib.ListN.{length, get_or, take, drop}
use Rattle.octets.specs.Number.{part}
use Rattle.octets.specs.Buffer.{put}
use Rattle.octets.proofs.Lists.{if-cases, if-map, whole_part}
use Rattle.octets.proofs.Put.{put-parts, part-put, part-put-out}
use Rattle.frame.specs.declared.Channel.{Channel}
use Rattle.packet.specs.declared.Packet.{Packet}
use Rattle.packet.specs.Header.{packet_of}
use Rattle.transport.specs.declared.Transport.{Transport}
use Rattle.transport.specs.Length.{need}
use Rattle.transport.specs.Shape.{begun_of}
use Rattle.state.specs.declared.Station.{Station}
use Rattle.state.specs.Slots.{slot_at, no_file, held}
use Rattle.state.specs.Blocks.{blocks_of, free_blocks, room, Stands}
use Rattle.state.specs.Sound.{Sized, Sound}
use Rattle.state.proofs.Places.{stands-low, stands-once}
use Rattle.room.specs.Find.{free_slot, file_of}
use Rattle.room.specs.Move.{with_file, opened, let_go}
use Rattle.room.specs.File.{block_octets}
use Rattle.room.proofs.Find.{free-at}
use Rattle.room.proofs.Keeps.{refiled-slot, refiled-slots, refiled-sized, opened-refiles, opened-blocks, opened-count, let_go-refiles, let_go-blocks, let_go-sound, next-refiles}
use Rattle.events.specs.Event.{Event, at}
use Rattle.judge.specs.Judge.{Judged, gives, after, data_of, written, first_slot, next_slot, goes_on, judged, next_kind}
use Rattle.judge.specs.Packets.{Undamaged, Starting}
use Rattle.judge.proofs.Parts.{open_events, Begins, Judges, judges-as, begun-right, goes-following}
use Rattle.judge.proofs.Parts.Begins.{wrong-shape, no_slot, no_room, opens_at}
use Rattle.judge.proofs.Parts.Judges.{fill, other, damaged, begins-new, begins-over, stray, goes_onward, breaks-off}
use Rattle.judge.proofs.Keeps.{stays-refiled, file-going}

-- "events 6 and 10 to 12 carry both": those of them that name slot k
abbrev pub about : ℕ → Event → Bool
about k e = (eqb e.kind 6 || leb 10 e.kind && leb e.kind 12) && eqb e.slot k

unfoldable pub events_of : ℕ → List Event → List Event
events_of k [] = []
events_of k (e ∷ es) = if about k e then e ∷ events_of k es else events_of k es

-- a stretch that is written over from its start
part-over : (es xs : List ℕ) (a n : ℕ) → length es ≤ n → a + n ≤ length xs → part a n (put xs a es) ≡ es ++ drop (length es) (part a n xs)
part-over es xs a n few fits =
    ap (λ (k : ℕ). part a n (put xs k es)) (sym (add-zero a)) ∙ part-put es xs a n 0 (omega arith)
    ∙ put-parts (part a n xs) 0 es (omega (arith, whole_part xs a n fits))
    ∙ ap (λ (k : ℕ). es ++ drop k (part a n xs)) (zero-add (length es))

-- the block at place i of slot k: "A packet's data is written from its block's start and the rest of the block stays."
module _ (s : Station) (k i : ℕ) (d store : List ℕ) (few : length d ≤ 8190) where
  pub written-here : 8190 * get_or (blocks_of s k) i 0 + 8190 ≤ length store
      → block_octets (written s k i d store) (get_or (blocks_of s k) i 0) ≡ d ++ drop (length d) (block_octets store (get_or (blocks_of s k) i 0))
  unfolding written
  written-here l = part-over d store (8190 * get_or (blocks_of s k) i 0) 8190 few l

  pub written-other : (b : ℕ) → (b ≡ get_or (blocks_of s k) i 0 → ⊥) → block_octets (written s k i d store) b ≡ block_octets store b
  unfolding written
  written-other b f =
      part-put-out d store (8190 * get_or (blocks_of s k) i 0) (8190 * b) 8190
      (elim (dec_lt b (get_or (blocks_of s k) i 0)) [ yes l ↦ inl (omega arith) | no g ↦ inr (omega arith) ])

-- the octets of a slot's blocks: none changed, or those of the block at one place, which now begins with the data
abbrev pub Untouched : List ℕ → List ℕ → List ℕ → Type 0
Untouched bs before now = (n : ℕ) → n < length bs → block_octets now (get_or bs n 0) ≡ block_octets before (get_or bs n 0)

pub record Wrote (bs : List ℕ) (i : ℕ) (d before now : List ℕ) : Type 0 where
  pub low : i < length bs
  pub few : length d ≤ 8190
  pub here : block_octets now (get_or bs i 0) ≡ d ++ drop (length d) (block_octets before (get_or bs i 0))
  pub others : (n : ℕ) → n < length bs → (n ≡ i → ⊥) → block_octets now (get_or bs n 0) ≡ block_octets before (get_or bs n 0)

module _ (s : Station) (k i : ℕ) (d store : List ℕ) (low : i < length (blocks_of s k)) (few : length d ≤ 8190) where
  stands : Stands s (get_or (blocks_of s k) i 0) k i
  stands = record { low = low; here = refl }

  written-slot : length store ≡ 8190 * s.blocks → Wrote (blocks_of s k) i d store (written s k i d store)
  written-slot l =
      record {
        low = low;
        few = few;
        here = written-here s k i d store few (omega (arith, stands-low stands));
        others =
            λ n m f.
            written-other s k i d store few (get_or (blocks_of s k) n 0)
            (λ e. f (stands-once {b = get_or (blocks_of s k) i 0} (record { low = m; here = e }) stands).1);
      }

  written-elsewhere : (j : ℕ) → (j ≡ k → ⊥) → Untouched (blocks_of s j) store (written s k i d store)
  written-elsewhere j f n m =
      written-other s k i d store few (get_or (blocks_of s j) n 0)
      (λ e. f (stands-once {b = get_or (blocks_of s k) i 0} (record { low = m; here = e }) stands).0)

-- events that name slot k, and events that do not
module _ (k : ℕ) (e : Event) (es : List Event) where
  event-here : about k e ≡ true → events_of k (e ∷ es) ≡ e ∷ events_of k es
  unfolding events_of
  event-here q = rw q

  event-past : about k e ≡ false → events_of k (e ∷ es) ≡ events_of k es
  unfolding events_of
  event-past q = rw q

pub events-append : (k : ℕ) (es fs : List Event) → events_of k (es ++ fs) ≡ events_of k es ++ events_of k fs
unfolding events_of
events-append k [] fs = refl
events-append k (e ∷ es) fs =
    rw (events-append k es fs) (sym (if-map (λ (gs : List Event). gs ++ events_of k fs) (about k e) (e ∷ events_of k es) (events_of k es)))

open-here : (h : Packet) (k : ℕ) → events_of k (open_events h k) ≡ open_events h k
unfolding events_of
open-here h k =
    let a = h.application.0 in
    if-cases (λ (es : List Event). events_of k (at 10 a k ∷ es) ≡ at 10 a k ∷ es) (eqb h.flags 3) (λ e. rw (eq-eqb k k refl)) (λ e. rw (eq-eqb k k refl))

open-other : (h : Packet) (k j : ℕ) → (j ≡ k → ⊥) → events_of j (open_events h k) ≡ []
unfolding events_of
open-other h k j f =
    let a = h.application.0 in
    let n : eqb k j ≡ false = ne_eqb k j (λ e. f (sym e)) in
    if-cases (λ (es : List Event). events_of j (at 10 a k ∷ es) ≡ []) (eqb h.flags 3) (λ e. rw n) (λ e. rw n)

-- a slot as it was
pub record Unchanged (s : Station) (store : List ℕ) (k : ℕ) (t : Station) (now : List ℕ) : Type 0 where
  pub slot : slot_at t k ≡ slot_at s k
  pub blocks : blocks_of t k ≡ blocks_of s k
  pub octets : Untouched (blocks_of s k) store now

-- a slot with a file that begins in state s: "the lowest free slot and the N lowest free blocks, in rising order"
pub record Opened (c : Channel) (s : Station) (store : List ℕ) (h : Packet) (d : List ℕ) (k : ℕ) (t : Station) (now : List ℕ) : Type 0 where
  pub file : Transport
  pub right : begun_of h.flags d ≡ Some file
  pub free : free_slot s ≡ Some k
  pub fits : need file.bits ≤ room s
  pub slot : slot_at t k ≡ first_slot c h file
  pub blocks : blocks_of t k ≡ take (need file.bits) (free_blocks s)
  pub octets : Wrote (blocks_of t k) 0 d store now

data Begun (c : Channel) (s : Station) (store : List ℕ) (h : Packet) (d : List ℕ) (k : ℕ) (j : Judged) : Type 0 where
  none : Unchanged s store k j.station j.store → events_of k j.events ≡ [] → Begun c s store h d k j
  one : Opened c s store h d k j.station j.store → events_of k j.events ≡ open_events h k → Begun c s store h d k j

stays-as : (s : Station) (store : List ℕ) (k : ℕ) → Unchanged s store k s store
stays-as s store k = record { slot = refl; blocks = refl; octets = λ n m. refl }

module _ {c : Channel} {s : Station} {store : List ℕ} {h : Packet} {d : List ℕ} (z : Sized s) (S : Sound s) (sized : length store ≡ 8190 * s.blocks) where
  begun-slot : {j : Judged} → Begins c s store h d j → (k : ℕ) → Begun c s store h d k j
  unfolding events_of
  begun-slot (wrong-shape e) k = none (stays-as s store k) refl
  begun-slot (no_slot e f) k = none (stays-as s store k) refl
  begun-slot (no_room e f l) k = none (stays-as s store k) refl
  begun-slot (opens_at {t} {k = i} e f l) k =
      let x = first_slot c h t in
      let r = opened-refiles s i x in
      let u = free-at s i f in
      let right = begun-right h.flags d e in
      let low : 0 < length (blocks_of (opened s i x) i) = omega (arith, opened-count s i x z S u.free l, right.some) in
      elim (ℕ_discrete k i) [
        | yes q ↦
            rw q
            (one
            (record {
              file = t;
              right = e;
              free = f;
              fits = l;
              slot = refiled-slot r z (omega (arith, u.low, z.slots));
              blocks = opened-blocks s i x z S u.free;
              octets = written-slot (opened s i x) i 0 d store low right.few (rw (stays-refiled r).blocks sized);
            })
            (open-here h i))
        | no g ↦
            none
            (record {
              slot = refiled-slots r k g;
              blocks = r.others k g;
              octets = rw (r.others k g) at (written-elsewhere (opened s i x) i 0 d store low right.few k g);
            })
            (open-other h i k g)
      ]

-- the state in which an older file of the pair is ended
abbrev pub rid : Station → Option ℕ → Station
rid s None = s
rid s (Some k) = let_go s k

-- a file is ended: "an incomplete file of the pair is abandoned, event 6, whatever follows"; "If not, event 6."
pub record Ending (c : Channel) (s : Station) (p : List ℕ) (k : ℕ) : Type 0 where
  pub undamaged : Undamaged p
  pub file : file_of s c (packet_of p).application ≡ Some k
  pub why : Starting (packet_of p) ⊎ (goes_on (slot_at s k) (packet_of p) (data_of p) ≡ false)

-- a file goes on: "it is written into its block, event 11, or 12 for the last"
pub record GoneOn (c : Channel) (s : Station) (store p : List ℕ) (k : ℕ) (t : Station) (now : List ℕ) : Type 0 where
  pub undamaged : Undamaged p
  pub later : Starting (packet_of p) → ⊥
  pub file : file_of s c (packet_of p).application ≡ Some k
  pub goes : goes_on (slot_at s k) (packet_of p) (data_of p) ≡ true
  pub slot : slot_at t k ≡ next_slot (slot_at s k) (packet_of p)
  pub blocks : blocks_of t k ≡ blocks_of s k
  pub octets : Wrote (blocks_of s k) (slot_at s k).accepted (data_of p) store now

-- what a packet does to slot k, and the events that name it
pub data Step (c : Channel) (s : Station) (store p : List ℕ) (k : ℕ) (j : Judged) : Type 0 where
  same : Unchanged s store k j.station j.store → events_of k j.events ≡ [] → Step c s store p k j
  ended : Ending c s p k → slot_at j.station k ≡ no_file → blocks_of j.station k ≡ []
      → events_of k j.events ≡ at 6 (packet_of p).application.0 k ∷ [] → Step c s store p k j
  -- in a slot that was free
  begun : Undamaged p → Starting (packet_of p) → held (slot_at s k) ≡ false
      → Opened c (rid s (file_of s c (packet_of p).application)) store (packet_of p) (data_of p) k j.station j.store
      → events_of k j.events ≡ open_events (packet_of p) k → Step c s store p k j
  -- in the slot of the file that it ended
  begun-over : Ending c s p k → Starting (packet_of p) → Opened c (let_go s k) store (packet_of p) (data_of p) k j.station j.store
      → events_of k j.events ≡ at 6 (packet_of p).application.0 k ∷ open_events (packet_of p) k → Step c s store p k j
  gone-on : GoneOn c s store p k j.station j.store
      → events_of k j.events ≡ at (next_kind (packet_of p)) (packet_of p).application.0 k ∷ [] → Step c s store p k j

-- an event of slot i, seen from slot k
named_here : (n a k : ℕ) (es : List Event) → about k (at n a k) ≡ eqb k k → events_of k (at n a k ∷ es) ≡ at n a k ∷ events_of k es
named_here n a k es e = event-here k (at n a k) es (e ∙ eq-eqb k k refl)

named_other : (n a i k : ℕ) (es : List Event) → (k ≡ i → ⊥) → events_of k (at n a i ∷ es) ≡ events_of k es
named_other n a i k es f = event-past k (at n a i) es (rw (ne_eqb i k (λ e. f (sym e))) (and-false (eqb n 6 || leb 10 n && leb n 12)))

module _ {c : Channel} {s : Station} {store p : List ℕ} (z : Sized s) (S : Sound s) (sized : length store ≡ 8190 * s.blocks) where
  new-slot : {j : Judged} (k : ℕ) → Undamaged p → Starting (packet_of p) → file_of s c (packet_of p).application ≡ None
      → Begun c s store (packet_of p) (data_of p) k j → Step c s store p k j
  new-slot k u e f (none t q) = same t q
  new-slot k u e f (one o q) = begun u e (free-at s k o.free).free (rw f o) q

  -- a file is ended, and what begins instead is seen from its slot, and from another
  over-here : {j : Judged} (i : ℕ) → Undamaged p → Starting (packet_of p) → file_of s c (packet_of p).application ≡ Some i
      → Begun c (let_go s i) store (packet_of p) (data_of p) i j
      → Step c s store p i (after (at 6 (packet_of p).application.0 i ∷ []) j)
  over-here {j} i u e f (none t q) =
      let a = (packet_of p).application.0 in
      let low = (file-going z S c (packet_of p).application f).low in
      ended (record { undamaged = u; file = f; why = inl e }) (t.slot ∙ refiled-slot (let_go-refiles s i) z low) (t.blocks ∙ let_go-blocks s i)
      (named_here 6 a i j.events refl ∙ ap (λ (es : List Event). at 6 a i ∷ es) q)
  over-here {j} i u e f (one o q) =
      let a = (packet_of p).application.0 in
      begun-over (record { undamaged = u; file = f; why = inl e }) e o
      (named_here 6 a i j.events refl ∙ ap (λ (es : List Event). at 6 a i ∷ es) q)

  over-other : {j : Judged} (i k : ℕ) → (k ≡ i → ⊥) → Undamaged p → Starting (packet_of p) → file_of s c (packet_of p).application ≡ Some i
      → Begun c (let_go s i) store (packet_of p) (data_of p) k j
      → Step c s store p k (after (at 6 (packet_of p).application.0 i ∷ []) j)
  over-other {j} i k g u e f (none t q) =
      let r = let_go-refiles s i in
      same
      (record { slot = t.slot ∙ refiled-slots r k g; blocks = t.blocks ∙ r.others k g; octets = rw (r.others k g) at t.octets })
      (named_other 6 (packet_of p).application.0 i k j.events g ∙ q)
  over-other {j} i k g u e f (one o q) =
      begun u e (rw (refiled-slots (let_go-refiles s i) k g) at (free-at (let_go s i) k o.free).free) (rw f o)
      (named_other 6 (packet_of p).application.0 i k j.events g ∙ q)

  broken-off : (i k : ℕ) → Undamaged p → file_of s c (packet_of p).application ≡ Some i → goes_on (slot_at s i) (packet_of p) (data_of p) ≡ false
      → Step c s store p k (gives (let_go s i) store (at 6 (packet_of p).application.0 i ∷ []))
  unfolding events_of
  broken-off i k u f g =
      let a = (packet_of p).application.0 in
      let r = let_go-refiles s i in
      elim (ℕ_discrete k i) [
        | yes q ↦
            rw q
            (ended (record { undamaged = u; file = f; why = inr g }) (refiled-slot r z (file-going z S c (packet_of p).application f).low)
            (let_go-blocks s i)
            (named_here 6 a i [] refl))
        | no n ↦
            same (record { slot = refiled-slots r k n; blocks = r.others k n; octets = λ b m. refl }) (named_other 6 a i k [] n)
      ]

  one_more : (i k : ℕ) → Undamaged p → (Starting (packet_of p) → ⊥) → file_of s c (packet_of p).application ≡ Some i
      → goes_on (slot_at s i) (packet_of p) (data_of p) ≡ true
      → Step c s store p k
      (gives (with_file s s.owner i (next_slot (slot_at s i) (packet_of p))) (written s i (slot_at s i).accepted (data_of p) store)
      (at (next_kind (packet_of p)) (packet_of p).application.0 i ∷ []))
  unfolding events_of
  one_more i k u e f g =
      let h = packet_of p in
      let a = h.application.0 in
      let x = next_slot (slot_at s i) h in
      let r = next-refiles s i x in
      let w = file-going z S c h.application f in
      let low : (slot_at s i).accepted < length (blocks_of s i) = omega (arith, w.less, w.places) in
      let few = (goes-following (slot_at s i) h (data_of p) e g).few in
      elim (ℕ_discrete k i) [
        | yes q ↦
            rw q
            (gone-on
            (record {
              undamaged = u;
              later = e;
              file = f;
              goes = g;
              slot = refiled-slot r z w.low;
              blocks = refl;
              octets = written-slot s i (slot_at s i).accepted (data_of p) store low few sized;
            })
            (named_here (next_kind h) a i []
            (if-cases (λ (n : ℕ). about i (at n a i) ≡ eqb i i) (eqb h.flags 2) (λ y. refl) (λ y. refl))))
        | no n ↦
            same
            (record {
              slot = refiled-slots r k n;
              blocks = refl;
              octets = written-elsewhere s i (slot_at s i).accepted (data_of p) store low few k n;
            })
            (named_other (next_kind h) a i k [] n)
      ]

  judges-slot : {j : Judged} → Judges c s store p j → (k : ℕ) → Step c s store p k j
  unfolding events_of
  judges-slot (fill l) k = same (stays-as s store k) refl
  judges-slot (other l m) k = same (stays-as s store k) refl
  judges-slot (damaged l e) k = same (stays-as s store k) refl
  judges-slot (begins-new u e f b) k = new-slot k u e f (begun-slot z S sized b k)
  judges-slot (begins-over u e {k = i} f b) k =
      let r = let_go-refiles s i in
      let low = (file-going z S c (packet_of p).application f).low in
      let b' = begun-slot (refiled-sized r z) (let_go-sound z S low) (rw (stays-refiled r).blocks sized) b in
      elim (ℕ_discrete k i) [
        | yes q ↦ rw q (over-here i u e f (b' i))
        | no n ↦ over-other i k n u e f (b' k)
      ]
  judges-slot (stray u e f) k = same (stays-as s store k) refl
  judges-slot (goes_onward u e {k = i} f g) k = one_more i k u e f g
  judges-slot (breaks-off u e {k = i} f g) k = broken-off i k u f g

-- THE law of a slot: whatever the packet, each slot takes one of five steps
pub judged-slot : (c : Channel) (s : Station) (store p : List ℕ) → Sized s → Sound s → length store ≡ 8190 * s.blocks
    → (k : ℕ) → Step c s store p k (judged c s store p)
judged-slot c s store p z S sized = judges-slot z S sized (judges-as c s store p)
