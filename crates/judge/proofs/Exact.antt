-- Each event that a packet can give, with the exact condition under which it is given ("Packets"). Assumes nothing.
use Rattle.std.specs.Prelude.{if◌then◌else◌, Option, Some, None}
use mathlib.Core.Path.{◌≡◌, refl, sym, subst}
use mathlib.Core.Bool.{Bool, true, false}
use mathlib.Core.Logic.{inl, inr, ⊎_elim, ◌↔◌}
use mathlib.Core.List.Memᴰ
use mathlib.Core.List.{List, [], ◌∷◌}
use Prim.Native.Nat.{ℕ, ◌≤◌, ◌<◌}
use borrow.Author.Tests.{eqb-true, eqb-false}
use lib.Dec.{eqb}
use Rattle.frame.specs.declared.Channel.{Channel}
use Rattle.packet.specs.Header.{packet_of}
use Rattle.transport.specs.declared.Transport.{Transport}
use Rattle.transport.specs.Length.{need}
use Rattle.transport.specs.Shape.{begun_of}
use Rattle.state.specs.declared.Station.{Station}
use Rattle.state.specs.Slots.{slot_at}
use Rattle.state.specs.Blocks.{room}
use Rattle.room.specs.Find.{free_slot, file_of}
use Rattle.events.specs.Event.{Event, of, at, Among}
use Rattle.judge.specs.Judge.{Judged, data_of, is_intact, begins, goes_on, judged}
use Rattle.judge.specs.Packets.{Undamaged, Starting, Starts}
use Rattle.judge.proofs.Parts.{
  opens_as,
  opens-whole,
  begins-wrong,
  begins-no-slot,
  begins-no-room,
  begins-opens,
  starts_none,
  starts-old,
  continues-none,
  continues-ends,
  continues-on,
  continues-last,
  judged-other,
  judged-damaged,
  judged-starts,
  judged-later,
  starting,
  Begins,
  Judges,
  judges-as,
}
use Rattle.judge.proofs.Parts.Begins.{wrong-shape, no_slot, no_room, opens_at}
use Rattle.judge.proofs.Parts.Judges.{fill, other, damaged, begins-new, begins-over, stray, goes_onward, breaks-off}
use Rattle.judge.proofs.Steps.{rid, Ending}

-- the state that is asked: an older file of the pair is ended before
abbrev pub cleared : Channel → Station → List ℕ → Station
cleared c s p = rid s (file_of s c (packet_of p).application)

pub record GoesOn (c : Channel) (s : Station) (p : List ℕ) (k : ℕ) : Type 0 where
  pub undamaged : Undamaged p
  pub later : Starting (packet_of p) → ⊥
  pub file : file_of s c (packet_of p).application ≡ Some k
  pub goes : goes_on (slot_at s k) (packet_of p) (data_of p) ≡ true

-- event n is given for slot k, or for slot 0 where an event carries no slot
pub data Given (c : Channel) (s : Station) (p : List ℕ) : ℕ → ℕ → Type 0 where
  wrong-check : (packet_of p).application.0 ≤ 2015 → is_intact p ≡ false → Given c s p 4 0
  no-file : Undamaged p → (Starting (packet_of p) → ⊥) → file_of s c (packet_of p).application ≡ None → Given c s p 5 0
  abandoned : {k : ℕ} → Ending c s p k → Given c s p 6 k
  wrong_start : Undamaged p → Starting (packet_of p) → begun_of (packet_of p).flags (data_of p) ≡ None → Given c s p 7 0
  all_held : {t : Transport} → Starts p t → free_slot (cleared c s p) ≡ None → Given c s p 8 0
  too_large : {t : Transport} {k : ℕ} → Starts p t → free_slot (cleared c s p) ≡ Some k → room (cleared c s p) < need t.bits → Given c s p 9 0
  opened : {t : Transport} {k : ℕ} → Starts p t → free_slot (cleared c s p) ≡ Some k → need t.bits ≤ room (cleared c s p) → Given c s p 10 k
  accepted : {k : ℕ} → GoesOn c s p k → ((packet_of p).flags ≡ 2 → ⊥) → Given c s p 11 k
  completed : {k : ℕ} → GoesOn c s p k → (packet_of p).flags ≡ 2 → Given c s p 12 k
  whole : {t : Transport} {k : ℕ} → Starts p t → free_slot (cleared c s p) ≡ Some k → need t.bits ≤ room (cleared c s p)
      → (packet_of p).flags ≡ 3 → Given c s p 12 k
  reserved : 2015 < (packet_of p).application.0 → (packet_of p).application.0 ≤ 2046 → Given c s p 13 0

-- an event of packet p, and its reason
pub record Reasoned (c : Channel) (s : Station) (p : List ℕ) (e : Event) : Type 0 where
  pub application : e.application ≡ (packet_of p).application.0
  pub reason : Given c s p e.kind e.slot

-- what is given has its reason
module _ {c : Channel} {s : Station} {p : List ℕ} where
  first : {e : Event} {n k : ℕ} {es : List Event} → Given c s p n k → (Among e es → Reasoned c s p e)
      → Among e (at n (packet_of p).application.0 k ∷ es) → Reasoned c s p e
  first g rest m =
      ⊎_elim (λ q. subst (Reasoned c s p) (sym q) (record { application = refl; reason = g })) rest (Memᴰ.cases_cons m)

  only : {e : Event} {n k : ℕ} → Given c s p n k → Among e (at n (packet_of p).application.0 k ∷ []) → Reasoned c s p e
  only g = first g (λ m. absurd (Memᴰ.not-nil m))

  opens-given : {e : Event} {t : Transport} {k : ℕ} → Starts p t → free_slot (cleared c s p) ≡ Some k → need t.bits ≤ room (cleared c s p)
      → (b : Bool) → eqb (packet_of p).flags 3 ≡ b
      → Among e (at 10 (packet_of p).application.0 k ∷ (if b then at 12 (packet_of p).application.0 k ∷ [] else [])) → Reasoned c s p e
  opens-given g f l true q = first (opened g f l) (only (whole g f l (eqb-true (packet_of p).flags 3 q)))
  opens-given g f l false q = only (opened g f l)

  begins-given : {e : Event} (f : Option ℕ) → file_of s c (packet_of p).application ≡ f → Undamaged p → Starting (packet_of p)
      → {store : List ℕ} {j : Judged} → Begins c (rid s f) store (packet_of p) (data_of p) j → Among e j.events → Reasoned c s p e
  begins-given f q u st (wrong-shape b) = only (wrong_start u st b)
  begins-given f q u st (no_slot b n) = only (all_held (record { undamaged = u; starting = st; right = b }) (rw q n))
  begins-given f q u st (no_room {k} b n l) =
      only (too_large {k = k} (record { undamaged = u; starting = st; right = b }) (rw q n) (rw q l))
  begins-given f q u st (opens_at {k} b n l) =
      opens-given {k = k} (record { undamaged = u; starting = st; right = b }) (rw q n) (rw q l) (eqb (packet_of p).flags 3) refl

  next-given : {k : ℕ} → GoesOn c s p k → (b : Bool) → eqb (packet_of p).flags 2 ≡ b → Given c s p (if b then 12 else 11) k
  next-given g true q = completed g (eqb-true (packet_of p).flags 2 q)
  next-given g false q = accepted g (eqb-false (packet_of p).flags 2 q)

  judges-given : {e : Event} {store : List ℕ} {j : Judged} → Judges c s store p j → Among e j.events → Reasoned c s p e
  judges-given (fill l) = λ m. absurd (Memᴰ.not-nil m)
  judges-given (other l n) = only (reserved l n)
  judges-given (damaged l b) = only (wrong-check l b)
  judges-given (begins-new u st f b) = begins-given None f u st b
  judges-given (begins-over u st {k} f b) =
      first (abandoned (record { undamaged = u; file = f; why = inl st })) (begins-given (Some k) f u st b)
  judges-given (stray u l f) = only (no-file u l f)
  judges-given (goes_onward u l f g) =
      only (next-given (record { undamaged = u; later = l; file = f; goes = g }) (eqb (packet_of p).flags 2) refl)
  judges-given (breaks-off u l f g) = only (abandoned (record { undamaged = u; file = f; why = inr g }))

-- and what has its reason is given
module _ (c : Channel) (s : Station) (store p : List ℕ) where
  begun-among : {e : Event} → Undamaged p → Starting (packet_of p)
      → Among e (begins c (cleared c s p) store (packet_of p) (data_of p) (begun_of (packet_of p).flags (data_of p))).events
      → Among e (judged c s store p).events
  begun-among {e} u st = by (file_of s c (packet_of p).application) refl
    where
      by : (f : Option ℕ) → file_of s c (packet_of p).application ≡ f
          → Among e (begins c (rid s f) store (packet_of p) (data_of p) (begun_of (packet_of p).flags (data_of p))).events
          → Among e (judged c s store p).events
      by None f m = rw (judged-starts c s store p refl u.file u.intact st, starts_none c s store (packet_of p) (data_of p) f) m
      by (Some k) f m =
          rw (judged-starts c s store p refl u.file u.intact st, starts-old c s store (packet_of p) (data_of p) f) (Memᴰ.tail m)

  abandons : {k : ℕ} → Ending c s p k → Dec (Starting (packet_of p)) → Among (at 6 (packet_of p).application.0 k) (judged c s store p).events
  abandons g (yes st) =
      let u = g.undamaged in
      rw (judged-starts c s store p refl u.file u.intact st, starts-old c s store (packet_of p) (data_of p) g.file) (Memᴰ.head refl)
  abandons g (no l) =
      let u = g.undamaged in
      let off = ⊎_elim (λ st. absurd (l st)) (λ b. b) g.why in
      rw (judged-later c s store p refl u.file u.intact l, continues-ends s store (packet_of p) (data_of p) g.file off) (Memᴰ.head refl)

  given-among : {n k : ℕ} → Given c s p n k → Among (at n (packet_of p).application.0 k) (judged c s store p).events
  given-among (wrong-check l b) = rw (judged-damaged c s store p refl l b) (Memᴰ.head refl)
  given-among (no-file u l f) =
      rw (judged-later c s store p refl u.file u.intact l, continues-none s store (packet_of p) (data_of p) f) (Memᴰ.head refl)
  given-among (abandoned g) = abandons g (starting (packet_of p))
  given-among (wrong_start u st b) =
      begun-among u st (rw (begins-wrong c (cleared c s p) store (packet_of p) (data_of p) b) (Memᴰ.head refl))
  given-among (all_held g f) =
      begun-among g.undamaged g.starting
      (rw (begins-no-slot c (cleared c s p) store (packet_of p) (data_of p) g.right f) (Memᴰ.head refl))
  given-among (too_large g f l) =
      begun-among g.undamaged g.starting
      (rw (begins-no-room c (cleared c s p) store (packet_of p) (data_of p) g.right f l) (Memᴰ.head refl))
  given-among (opened {t} {k} g f l) =
      let t' = cleared c s p in
      begun-among g.undamaged g.starting
      (rw (begins-opens c t' store (packet_of p) (data_of p) g.right f l, opens_as c t' store (packet_of p) (data_of p) k t) (Memᴰ.head refl))
  given-among (accepted g n) =
      let u = g.undamaged in
      rw (judged-later c s store p refl u.file u.intact g.later, continues-on s store (packet_of p) (data_of p) g.file g.goes n)
      (Memᴰ.head refl)
  given-among (completed g n) =
      let u = g.undamaged in
      rw (judged-later c s store p refl u.file u.intact g.later, continues-last s store (packet_of p) (data_of p) g.file g.goes n)
      (Memᴰ.head refl)
  given-among (whole {t} {k} g f l n) =
      let t' = cleared c s p in
      begun-among g.undamaged g.starting
      (rw (begins-opens c t' store (packet_of p) (data_of p) g.right f l, opens-whole c t' store (packet_of p) (data_of p) k t n)
      (Memᴰ.tail (Memᴰ.head refl)))
  given-among (reserved l n) = rw (judged-other c s store p refl l n) (Memᴰ.head refl)

-- THE law of a packet's events: those are given that have a reason, and no others
module _ (c : Channel) (s : Station) (store p : List ℕ) where
  pub given-exactly : (e : Event) → Among e (judged c s store p).events ↔ Reasoned c s p e
  given-exactly e = (
    judges-given (judges-as c s store p),
    λ r. Memᴰ.cast (λ i. record { kind = e.kind; application = r.application i; slot = e.slot }) (given-among c s store p r.reason),
  )

  -- event 6 for slot k: exactly if it has the incomplete file of the pair, and the packet begins another or does not go on with it
  pub abandoned-exactly : (k : ℕ) → Among (at 6 (packet_of p).application.0 k) (judged c s store p).events ↔ Ending c s p k
  abandoned-exactly k =
      (λ m. by ((given-exactly (at 6 (packet_of p).application.0 k)).0 m).reason, λ g. given-among c s store p (abandoned g))
    where
      by : Given c s p 6 k → Ending c s p k
      by (abandoned g) = g

  -- a packet that passes every check before is opened for, event 10, or gets event 9: as its need is within the free blocks, the older
  -- file's among them, or exceeds them
  module _ {t : Transport} {k : ℕ} (g : Starts p t) (f : free_slot (cleared c s p) ≡ Some k) where
    same_start : {t' : Transport} → Starts p t' → t' ≡ t
    same_start {t'} g' =
        let a : begun_of (packet_of p).flags (data_of p) ≡ Some t = g.right in
        let b : begun_of (packet_of p).flags (data_of p) ≡ Some t' = g'.right in
        cc

    pub too-large-exactly : Among (of 9 (packet_of p).application.0) (judged c s store p).events ↔ (room (cleared c s p) < need t.bits)
    too-large-exactly =
        (λ m. by ((given-exactly (of 9 (packet_of p).application.0)).0 m).reason, λ l. given-among c s store p (too_large g f l))
      where
        by : Given c s p 9 0 → room (cleared c s p) < need t.bits
        by (too_large g' f' l) = rw (same_start g') at l

    pub opened-exactly : Among (at 10 (packet_of p).application.0 k) (judged c s store p).events ↔ (need t.bits ≤ room (cleared c s p))
    opened-exactly =
        (λ m. by ((given-exactly (at 10 (packet_of p).application.0 k)).0 m).reason, λ l. given-among c s store p (opened g f l))
      where
        by : Given c s p 10 k → need t.bits ≤ room (cleared c s p)
        by (opened g' f' l) = rw (same_start g') at l
