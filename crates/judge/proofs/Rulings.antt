-- What is decided of a packet: doing it is what the packet does, and what is known where something is done to a file. Assumes nothing.
use Rattle.std.specs.Prelude.{if◌then◌else◌, Option, Some, None}
use mathlib.Core.Path.{◌≡◌, refl, sym, subst, ap, ap₂, ◌∙◌}
use mathlib.Core.Bool.{true, false}
use mathlib.Core.List.{List, [], ◌∷◌}
use Prim.Native.Nat.{ℕ, ◌-◌, ◌≤◌, ◌<◌}
use native.Mathlib.Omega.{arith}
use borrow.Author.Tests.{ltb-false, leb-true, lt-ltb, le-ltb, lt-leb, le-leb}
use lib.Dec.{ltb, leb}
use lib.ListN.{get_or, set}
use Rattle.octets.proofs.Lists.{if-cases, if-map}
use Rattle.events.specs.Event.{of, at}
use Rattle.frame.specs.declared.Channel.{Channel}
use Rattle.packet.specs.declared.Packet.{Packet}
use Rattle.packet.specs.declared.Kind.{Kind}
use Rattle.packet.specs.declared.Kind.TheVariants.{File, Other, Fill}
use Rattle.packet.specs.Kinds.{kind_of}
use Rattle.packet.specs.Header.{packet_of}
use Rattle.transport.specs.declared.Transport.{Transport}
use Rattle.transport.specs.Length.{need}
use Rattle.transport.specs.Shape.{begun_of}
use Rattle.state.specs.declared.Slot.{Slot}
use Rattle.state.specs.declared.Station.{Station}
use Rattle.state.specs.Slots.{no_file, slot_at}
use Rattle.state.specs.Blocks.{needs, room}
use Rattle.room.specs.Find.{free_from, free_slot, file_from, file_of}
use Rattle.room.specs.Move.{let_go}
use Rattle.judge.specs.declared.Place.{Place}
use Rattle.judge.specs.declared.Place.TheVariants.{Denied, Granted}
use Rattle.judge.specs.declared.Act.{Act}
use Rattle.judge.specs.declared.Act.TheVariants.{Opens, Over, GoesOn, Ends}
use Rattle.judge.specs.declared.Ruling.{Ruling}
use Rattle.judge.specs.declared.Ruling.TheVariants.{Skips, Says, Does}
use Rattle.judge.specs.Judge.{Judged, gives, after, data_of, is_intact, starts_file, placed, begins, starts, goes_on, continues, filed, judged_as, judged}
use Rattle.judge.specs.Ruling.{place_at, place_of, new_ruling, start_ruling, next_ruling, file_ruling, ruling_as, ruling_of, placed_as, acted, ruled}

-- a file that begins
module _ (c : Channel) (s : Station) (store : List ℕ) (h : Packet) (d : List ℕ) where
  placed-is : (t : Transport) (f : Option ℕ) → placed c s store h d t f ≡ placed_as c s store h d (place_at s.blocks s.slots t f)
  unfolding placed place_at placed_as
  placed-is t None = refl
  placed-is t (Some k) = sym (if-map (placed_as c s store h d) (ltb (room s) (need t.bits)) (Denied 9) (Granted k t))

  begins-is : (b : Option Transport) → begins c s store h d b ≡ placed_as c s store h d (place_of s.blocks s.slots b)
  unfolding begins place_of placed_as free_slot
  begins-is None = refl
  begins-is (Some t) = placed-is t (free_slot s)

  new_is : (p : Place) → placed_as c s store h d p ≡ ruled c s store h d (new_ruling p)
  unfolding placed_as ruled acted new_ruling
  new_is (Denied n) = refl
  new_is (Granted k t) = refl

module _ (c : Channel) (s : Station) (store : List ℕ) (h : Packet) (d : List ℕ) where
  starts_is : (f : Option ℕ) → starts c s store h d f ≡ ruled c s store h d (start_ruling s.blocks s.slots (begun_of h.flags d) f)
  unfolding starts start_ruling ruled acted let_go
  starts_is None =
      begins-is c s store h d (begun_of h.flags d) ∙ new_is c s store h d (place_of s.blocks s.slots (begun_of h.flags d))
  starts_is (Some k) =
      ap (after (at 6 h.application.0 k ∷ [])) (begins-is c (let_go s k) store h d (begun_of h.flags d))

  continues-is : (f : Option ℕ) → continues s store h d f ≡ ruled c s store h d (next_ruling s.slots h d f)
  unfolding continues next_ruling ruled acted
  continues-is None = refl
  continues-is (Some k) = sym (if-map (ruled c s store h d) (goes_on (slot_at s k) h d) (Does (GoesOn k)) (Does (Ends k)))

  filed-is : filed c s store h d ≡ ruled c s store h d (file_ruling c s.blocks s.slots h d)
  unfolding filed file_ruling file_of
  filed-is =
      let f = file_from 0 c h.application s.slots in
      ap₂ (λ (x y : Judged). if starts_file h then x else y) (starts_is f) (continues-is f)
      ∙ sym
      (if-map (ruled c s store h d) (starts_file h) (start_ruling s.blocks s.slots (begun_of h.flags d) f) (next_ruling s.slots h d f))

module _ (c : Channel) (s : Station) (store p : List ℕ) where
  abbrev ruling : Ruling
  ruling = ruling_of c s.blocks s.slots p

  judged-as : (k : Kind)
      → judged_as k c s store (packet_of p) p ≡ ruled c s store (packet_of p) (data_of p) (ruling_as k c s.blocks s.slots (packet_of p) p)
  unfolding judged_as ruling_as ruled
  judged-as Fill = refl
  judged-as Other = refl
  judged-as File =
      let h = packet_of p in
      ap (λ (x : Judged). if is_intact p then x else gives s store (of 4 h.application.0 ∷ [])) (filed-is c s store h (data_of p))
      ∙ sym (if-map (ruled c s store h (data_of p)) (is_intact p) (file_ruling c s.blocks s.slots h (data_of p)) (Says 4))

  -- THE law: what a packet does is what is done by what was decided of it
  judged-is : judged c s store p ≡ ruled c s store (packet_of p) (data_of p) ruling
  unfolding judged ruling_of
  judged-is = judged-as (kind_of (packet_of p).application)

  pub ruled-skips : ruling ≡ Skips → judged c s store p ≡ gives s store []
  unfolding ruled
  ruled-skips e = judged-is ∙ rw e

  pub ruled-says : {n : ℕ} → ruling ≡ Says n → judged c s store p ≡ gives s store (of n (packet_of p).application.0 ∷ [])
  unfolding ruled
  ruled-says e = judged-is ∙ rw e

  -- the same with header and data as the code has them
  pub ruled-does : {h : Packet} {d : List ℕ} → h ≡ packet_of p → d ≡ data_of p → {a : Act} → ruling ≡ Does a
      → judged c s store p ≡ acted c s store h d a
  unfolding ruled
  ruled-does read cut e = judged-is ∙ rw (e, ← read, ← cut)

-- the decision, test after test
module _ (blocks : ℕ) (slots : List Slot) {b : Option Transport} where
  pub place-wrong : b ≡ None → Denied 7 ≡ place_of blocks slots b
  unfolding place_of
  place-wrong e = rw e

  module _ {t : Transport} (e : b ≡ Some t) where
    pub place-full : free_from 0 slots ≡ None → Denied 8 ≡ place_of blocks slots b
    unfolding place_of place_at
    place-full f = rw (e, f)

    module _ {k : ℕ} (f : free_from 0 slots ≡ Some k) where
      pub place_short : blocks - needs slots < need t.bits → Denied 9 ≡ place_of blocks slots b
      unfolding place_of place_at
      place_short l = rw (e, f, lt-ltb (blocks - needs slots) (need t.bits) l)

      pub place_found : need t.bits ≤ blocks - needs slots → Granted k t ≡ place_of blocks slots b
      unfolding place_of place_at
      place_found l = rw (e, f, le-ltb (blocks - needs slots) (need t.bits) l)

pub new-denied : {n : ℕ} {p : Place} → p ≡ Denied n → Says n ≡ new_ruling p
unfolding new_ruling
new-denied e = rw e

pub new-granted : {k : ℕ} {t : Transport} {p : Place} → p ≡ Granted k t → Does (Opens k t) ≡ new_ruling p
unfolding new_ruling
new-granted e = rw e

module _ (slots : List Slot) (h : Packet) (d : List ℕ) (k : ℕ) where
  pub next-goes : goes_on (get_or slots k no_file) h d ≡ true → Does (GoesOn k) ≡ next_ruling slots h d (Some k)
  unfolding next_ruling
  next-goes e = rw e

  pub next-ends : goes_on (get_or slots k no_file) h d ≡ false → Does (Ends k) ≡ next_ruling slots h d (Some k)
  unfolding next_ruling
  next-ends e = rw e

module _ (c : Channel) (blocks : ℕ) (slots : List Slot) (h : Packet) (d : List ℕ) {f : Option ℕ}
    (found : f ≡ file_from 0 c h.application slots) where
  pub file-new : {r : Ruling} → starts_file h ≡ true → f ≡ None → r ≡ new_ruling (place_of blocks slots (begun_of h.flags d))
      → r ≡ file_ruling c blocks slots h d
  unfolding file_ruling start_ruling
  file-new e n q = rw (e, ← found, n) q

  pub file-over : {r : Ruling} → starts_file h ≡ true → {k : ℕ} → f ≡ Some k → r ≡ Does (Over k (place_of blocks (set slots k no_file) (begun_of h.flags d)))
      → r ≡ file_ruling c blocks slots h d
  unfolding file_ruling start_ruling
  file-over e n q = rw (e, ← found, n) q

  pub file-stray : starts_file h ≡ false → f ≡ None → Says 5 ≡ file_ruling c blocks slots h d
  unfolding file_ruling next_ruling
  file-stray e n = rw (e, ← found, n)

  pub file-next : {r : Ruling} → starts_file h ≡ false → {k : ℕ} → f ≡ Some k → r ≡ next_ruling slots h d (Some k) → r ≡ file_ruling c blocks slots h d
  unfolding file_ruling
  file-next e n q = rw (e, ← found, n) q

module _ (c : Channel) (blocks : ℕ) (slots : List Slot) (p : List ℕ) {h : Packet} (read : h ≡ packet_of p) where
  pub ruling-fill : 2046 < h.application.0 → Skips ≡ ruling_of c blocks slots p
  unfolding ruling_of ruling_as
  ruling-fill l = rw (← read, lt-leb h.application.0 2015 (omega arith), lt-leb h.application.0 2046 l)

  pub ruling-other : 2015 < h.application.0 → h.application.0 ≤ 2046 → Says 13 ≡ ruling_of c blocks slots p
  unfolding ruling_of ruling_as
  ruling-other l m = rw (← read, lt-leb h.application.0 2015 l, le-leb h.application.0 2046 m)

  module _ (file : h.application.0 ≤ 2015) where
    pub ruling-damaged : is_intact p ≡ false → Says 4 ≡ ruling_of c blocks slots p
    unfolding ruling_of ruling_as
    ruling-damaged e = rw (← read, le-leb h.application.0 2015 file, e)

    pub ruling-file : is_intact p ≡ true → {r : Ruling} → r ≡ file_ruling c blocks slots h (data_of p) → r ≡ ruling_of c blocks slots p
    unfolding ruling_of ruling_as
    ruling-file e q = rw (← read, le-leb h.application.0 2015 file, e) q

-- a file that begins has a place
pub record Placed (blocks : ℕ) (slots : List Slot) (b : Option Transport) (k : ℕ) (t : Transport) : Type 0 where
  pub right : b ≡ Some t
  pub free : free_from 0 slots ≡ Some k
  pub fits : need t.bits ≤ blocks - needs slots

abbrev IfGranted : ℕ → List Slot → Option Transport → Place → Type 0
IfGranted blocks slots b (Denied n) = Unit {0}
IfGranted blocks slots b (Granted k t) = Placed blocks slots b k t

pub place-known : (blocks : ℕ) (slots : List Slot) (b : Option Transport) → IfGranted blocks slots b (place_of blocks slots b)
unfolding place_of place_at
place-known blocks slots b = by b refl
  where
    found : (t : Transport) → b ≡ Some t → (f : Option ℕ) → free_from 0 slots ≡ f → IfGranted blocks slots b (place_at blocks slots t f)
    found t e None q = tt
    found t e (Some k) q =
        if-cases (IfGranted blocks slots b) (ltb (blocks - needs slots) (need t.bits)) (λ _. tt)
        (λ l. record { right = e; free = q; fits = ltb-false (blocks - needs slots) (need t.bits) l })

    by : (b' : Option Transport) → b ≡ b' → IfGranted blocks slots b (place_of blocks slots b')
    by None e = tt
    by (Some t) e = found t e (free_from 0 slots) refl

pub granted-known : {blocks : ℕ} {slots : List Slot} {b : Option Transport} {k : ℕ} {t : Transport} → place_of blocks slots b ≡ Granted k t
    → Placed blocks slots b k t
granted-known {blocks} {slots} {b} e = subst (IfGranted blocks slots b) e (place-known blocks slots b)

-- what is known where something is done to a file
abbrev pub Decided : Channel → ℕ → List Slot → Packet → List ℕ → Act → Type 0
Decided c blocks slots h d (Opens k t) = Placed blocks slots (begun_of h.flags d) k t
Decided c blocks slots h d (Over k p) =
    (file_from 0 c h.application slots ≡ Some k) × (place_of blocks (set slots k no_file) (begun_of h.flags d) ≡ p)
Decided c blocks slots h d (GoesOn k) = file_from 0 c h.application slots ≡ Some k
Decided c blocks slots h d (Ends k) = file_from 0 c h.application slots ≡ Some k

abbrev IfDoes : Channel → ℕ → List Slot → Packet → List ℕ → Ruling → Type 0
IfDoes c blocks slots h d Skips = Unit {0}
IfDoes c blocks slots h d (Says n) = Unit {0}
IfDoes c blocks slots h d (Does a) = Decided c blocks slots h d a

module _ (c : Channel) (blocks : ℕ) (slots : List Slot) (h : Packet) (d : List ℕ) where
  new-known : (p : Place) → IfGranted blocks slots (begun_of h.flags d) p → IfDoes c blocks slots h d (new_ruling p)
  unfolding new_ruling
  new-known (Denied n) g = tt
  new-known (Granted k t) g = g

  start-known : (f : Option ℕ) → file_from 0 c h.application slots ≡ f
      → IfDoes c blocks slots h d (start_ruling blocks slots (begun_of h.flags d) f)
  unfolding start_ruling
  start-known None e = new-known (place_of blocks slots (begun_of h.flags d)) (place-known blocks slots (begun_of h.flags d))
  start-known (Some k) e = (e, refl)

  next_known : (f : Option ℕ) → file_from 0 c h.application slots ≡ f → IfDoes c blocks slots h d (next_ruling slots h d f)
  unfolding next_ruling
  next_known None e = tt
  next_known (Some k) e =
      if-cases (IfDoes c blocks slots h d) {x = Does (GoesOn k)} {y = Does (Ends k)} (goes_on (get_or slots k no_file) h d) (λ _. e) (λ _. e)

  file-known : IfDoes c blocks slots h d (file_ruling c blocks slots h d)
  unfolding file_ruling
  file-known =
      if-cases (IfDoes c blocks slots h d) (starts_file h) (λ _. start-known (file_from 0 c h.application slots) refl)
      (λ _. next_known (file_from 0 c h.application slots) refl)

kind-known : (c : Channel) (blocks : ℕ) (slots : List Slot) (p : List ℕ) (k : Kind)
    → IfDoes c blocks slots (packet_of p) (data_of p) (ruling_as k c blocks slots (packet_of p) p)
unfolding ruling_as
kind-known c blocks slots p Fill = tt
kind-known c blocks slots p Other = tt
kind-known c blocks slots p File =
    if-cases (IfDoes c blocks slots (packet_of p) (data_of p)) (is_intact p) (λ _. file-known c blocks slots (packet_of p) (data_of p)) (λ _. tt)

abbrev IfFile : ℕ → Ruling → Type 0
IfFile n Skips = Unit {0}
IfFile n (Says k) = Unit {0}
IfFile n (Does b) = n ≤ 2015

module _ (c : Channel) (blocks : ℕ) (slots : List Slot) (p : List ℕ) {a : Act} (e : ruling_of c blocks slots p ≡ Does a) where
  pub does-known : {h : Packet} {d : List ℕ} → h ≡ packet_of p → d ≡ data_of p → Decided c blocks slots h d a
  unfolding ruling_of
  does-known read cut =
      rw (read, cut)
      (subst (IfDoes c blocks slots (packet_of p) (data_of p)) e (kind-known c blocks slots p (kind_of (packet_of p).application)))

  -- it is a file's
  pub does-file : (packet_of p).application.0 ≤ 2015
  unfolding ruling_of ruling_as
  does-file = subst (IfFile n) e by_kind
    where
      n : ℕ
      n = (packet_of p).application.0

      any : n ≤ 2015 → (r : Ruling) → IfFile n r
      any l Skips = tt
      any l (Says k) = tt
      any l (Does b) = l

      by_kind : IfFile n (ruling_of c blocks slots p)
      by_kind =
          if-cases (λ (k : Kind). IfFile n (ruling_as k c blocks slots (packet_of p) p)) (leb n 2015)
          (λ l. any (leb-true n 2015 l) (ruling_as File c blocks slots (packet_of p) p))
          (λ _. if-cases (λ (k : Kind). IfFile n (ruling_as k c blocks slots (packet_of p) p)) (leb n 2046) (λ _. tt) (λ _. tt))
