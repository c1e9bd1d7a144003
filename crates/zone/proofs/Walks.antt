-- Packets judged one after the other, and a whole frame: what they leave as it was, that a sound state stays sound, and how many events
-- there can be. Assumes nothing.
use mathlib.Core.Path.{◌≡◌, refl, sym, ap, ◌∙◌}
use mathlib.Core.Bool.{Bool, true, false, true≢false}
use mathlib.Core.Logic.{inl, inr}
use mathlib.Core.List.{List, [], ◌∷◌, ◌++◌, append_assoc, append-nil, flatten}
use Prim.Native.Nat.{ℕ, ◌+◌, ◌-◌, ◌*◌, ◌≤◌, ◌<◌}
use native.Mathlib.Decide.{ℕ_discrete, dec_lt}
use native.Mathlib.Omega.{arith}
use lib.ListN.{length, take, drop, get_or, replicate, length-append, length-drop, length-set, length-replicate}
use lib.Seq.{take-take, take-append_seam, get_or-set_same, get_or-set_other}
use Rattle.octets.specs.Number.{part}
use Rattle.octets.specs.Buffer.{put}
use Rattle.octets.proofs.Lists.{whole_part}
use Rattle.octets.proofs.Put.{length-put, part-put-in, part-put-out}
use Rattle.frame.specs.declared.Accepted.{Accepted}
use Rattle.frame.specs.declared.Channel.{Channel}
use Rattle.packet.specs.declared.Packet.{Packet}
use Rattle.packet.specs.declared.Look.TheVariants.{Good}
use Rattle.packet.specs.Header.{look_of, size_of}
use Rattle.packet.proofs.Looks.{look-tells}
use Rattle.state.specs.declared.Desk.{Desk}
use Rattle.state.specs.declared.Station.{Station}
use Rattle.state.specs.Slots.{desk_at, empty_desk}
use Rattle.state.specs.Sound.{Sized, DeskHolds, Sound, DesksSound, desk_octets}
use Rattle.events.specs.Event.{Event, bare, flat}
use Rattle.judge.specs.Judge.{Judged, gives, after, judged}
use Rattle.judge.specs.Contract.{Watched}
use Rattle.judge.proofs.Keeps.{Stays, stays_all, stays_then, stays-sized, stays-watched, stays-desks, judged-stays, judged-store, judged-sound}
use Rattle.judge.proofs.Few.{three, few}
use Rattle.judge.proofs.Most.{going, few-going, most, most-carried}
use Rattle.events.proofs.Flat.{flat-behind}
use Rattle.zone.specs.Zone.{Split, unfinished, behind, split, Reading, from_pointer, Wholes, Unfinished}
use Rattle.zone.specs.Walk.{judged_all, gap, held_at, reading_of, with_held, with_desk, Walked, bad_events, walked, walked_by, walked_from}
use Rattle.zone.specs.Contract.{Lent, TellsWalked}
use Rattle.zone.proofs.Split.{Cuts, split-wholes, split-left, split-cuts, unfinished-few, unfinished-held, held-unfinished, carried-lacks, carried-whole, carried-part}
use Rattle.zone.proofs.Split.Cuts.{at-end, at-bad}
use Rattle.zone.proofs.Readings.{from-few, reading-gap, reading-seamless, Reads, reads_as}
use Rattle.zone.proofs.Readings.Reads.{afresh, too_few, bad-header, goes_on, points-off}

-- events before events
pub after-after : (es fs : List Event) (j : Judged) → after es (after fs j) ≡ after (es ++ fs) j
after-after es fs j = λ i. gives j.station j.store (sym (append_assoc es fs j.events) i)

-- packets one after the other
module _ (c : Channel) where
  pub all_first : (s : Station) (store p : List ℕ) (ps : List (List ℕ))
      → judged_all c s store (p ∷ ps)
      ≡ after (judged c s store p).events (judged_all c (judged c s store p).station (judged c s store p).store ps)
  unfolding judged_all
  all_first s store p ps = refl

  pub all_one : (s : Station) (store p : List ℕ) → judged_all c s store (p ∷ []) ≡ judged c s store p
  unfolding judged_all
  all_one s store p = λ i. gives (judged c s store p).station (judged c s store p).store (append-nil (judged c s store p).events i)

  pub all_append : (s : Station) (store : List ℕ) (ps qs : List (List ℕ))
      → judged_all c s store (ps ++ qs)
      ≡ after (judged_all c s store ps).events (judged_all c (judged_all c s store ps).station (judged_all c s store ps).store qs)
  unfolding judged_all
  all_append s store [] qs = refl
  all_append s store (p ∷ ps) qs =
      let j = judged c s store p in
      let k = judged_all c j.station j.store ps in
      ap (after j.events) (all_append j.station j.store ps qs)
      ∙ after-after j.events k.events (judged_all c k.station k.store qs)

  pub all-stays : (s : Station) (store : List ℕ) (ps : List (List ℕ)) → Stays s (judged_all c s store ps).station
  unfolding judged_all
  all-stays s store [] = stays_all s
  all-stays s store (p ∷ ps) =
      let j = judged c s store p in
      stays_then (judged-stays c s store p) (all-stays j.station j.store ps)

  pub all-sized : (s : Station) (store : List ℕ) (ps : List (List ℕ)) → Sized s → Sized (judged_all c s store ps).station
  all-sized s store ps = stays-sized (all-stays s store ps)

  pub all-store : (s : Station) (store : List ℕ) (ps : List (List ℕ)) → length (judged_all c s store ps).store ≡ length store
  unfolding judged_all
  all-store s store [] = refl
  all-store s store (p ∷ ps) =
      let j = judged c s store p in
      all-store j.station j.store ps ∙ judged-store c s store p

  pub all_sound : (s : Station) (store : List ℕ) (ps : List (List ℕ)) → Sized s → Sound s → Watched s c → Sound (judged_all c s store ps).station
  unfolding judged_all
  all_sound s store [] z S w = S
  all_sound s store (p ∷ ps) z S w =
      let j = judged c s store p in
      let t = judged-stays c s store p in
      all_sound j.station j.store ps (stays-sized t z) (judged-sound c s store p z S w) (stays-watched t w)

  pub all-few : (s : Station) (store : List ℕ) (ps : List (List ℕ)) → Wholes ps → 3 * length (judged_all c s store ps).events ≤ length (flatten ps)
  unfolding judged_all flatten
  all-few s store [] w = omega arith
  all-few s store (p ∷ ps) w =
      let j = judged c s store p in
      omega (
        arith,
        few c s store p w.0,
        all-few j.station j.store ps w.1,
        length-append p (flatten ps),
        length-append j.events (judged_all c j.station j.store ps).events,
      )

-- a desk set in order
module _ (s : Station) (i : ℕ) (d : Desk) where
  pub desk-sized : Sized s → Sized (with_desk s i d)
  desk-sized z = record { watched = z.watched; desks = length-set s.desks i d ∙ z.desks; owner = z.owner; slots = z.slots }

  desk-here : Sized s → i < 8 → desk_at (with_desk s i d) i ≡ d
  desk-here z l = get_or-set_same s.desks i d empty_desk (omega (arith, z.desks))

  desk-other : (j : ℕ) → (j ≡ i → ⊥) → desk_at (with_desk s i d) j ≡ desk_at s j
  desk-other j f = get_or-set_other s.desks i j d empty_desk f

  pub desk-sound : Sized s → i < 8 → DeskHolds d → Sound s → Sound (with_desk s i d)
  desk-sound z l h S =
      record {
        set_up =
            let u = S.set_up in
            record { some = u.some; few = u.few; low = u.low; distinct = u.distinct; store = u.store; least = u.least };
        blocks = S.blocks;
        files =
            λ k m e.
            let f = S.files k m e in
            record {
              accepted = f.accepted;
              watched = f.watched;
              application = f.application;
              bits = f.bits;
              count = f.count;
              places = f.places;
            };
        alone = S.alone;
        free = S.free;
        desks =
            λ j m.
            elim (ℕ_discrete j i) [
              | yes e ↦ rw (e, desk-here z l) h
              | no f ↦ rw (desk-other j f) (S.desks j m)
            ];
      }

-- the octets of a desk set in order: what is left, zeros after it; the other desks as they were
module _ (desks : List ℕ) (i : ℕ) (left : List ℕ) (fits : length left ≤ 8198) where
  filled : length (left ++ replicate (8198 - length left) 0) ≡ 8198
  filled = length-append left (replicate (8198 - length left) 0) ∙ omega (arith, length-replicate {A = ℕ} (8198 - length left) 0)

  pub held-here : 8198 * i + 8198 ≤ length desks → desk_octets i (with_held desks i left) ≡ left ++ replicate (8198 - length left) 0
  held-here l =
      let es = left ++ replicate (8198 - length left) 0 in
      ap (λ (n : ℕ). part (8198 * i) n (with_held desks i left)) (sym filled)
      ∙ part-put-in es desks (8198 * i) (omega (arith, filled))

  pub held-now : 8198 * i + 8198 ≤ length desks → part (8198 * i) (length left) (with_held desks i left) ≡ left
  held-now l =
      sym (take-take (length left) 8198 (drop (8198 * i) (with_held desks i left)) fits) ∙ ap (take (length left)) (held-here l)
      ∙ take-append_seam left (replicate (8198 - length left) 0)

  pub held-other : (j : ℕ) → (j ≡ i → ⊥) → desk_octets j (with_held desks i left) ≡ desk_octets j desks
  held-other j f =
      part-put-out (left ++ replicate (8198 - length left) 0) desks (8198 * i) (8198 * j) 8198
      (elim (dec_lt j i) [ yes l ↦ inl (omega arith) | no g ↦ inr (omega (arith, filled)) ])

pub desks-sound : {s : Station} {desks left : List ℕ} → Sized s → s.channels ≤ 8 → length desks ≡ 8198 * s.channels → DesksSound s desks
    → Unfinished left
    → (i : ℕ) → i < s.channels → (d : Desk) → d.held ≡ length left → DesksSound (with_desk s i d) (with_held desks i left)
desks-sound {s} {desks} {left} z most l h u i low d e =
    let few : length left ≤ 8198 = omega (arith, unfinished-few u) in
    record {
      octets =
          λ j m.
          elim (ℕ_discrete j i) [
            | yes f ↦
                rw (f, desk-here s i d z (omega arith), held-here desks i left few (omega arith), e)
                (unfinished-held (8198 - length left) u)
            | no f ↦ rw (desk-other s i d j f, held-other desks i left few j f) (h.octets j m)
          ];
    }

-- what a frame leaves
module _ (c : Channel) (s : Station) (desks store zone : List ℕ) (a : Accepted) where
  pub walked_sized : Sized s → Sized (walked c s desks store zone a).station
  unfolding walked
  walked_sized z =
      let ps = (split (reading_of s desks zone a).octets).packets in
      desk-sized (judged_all c s store ps).station a.desk _ (all-sized c s store ps z)

  pub walked-desks : length (walked c s desks store zone a).desks ≡ length desks
  unfolding walked
  walked-desks =
      let left = (split (reading_of s desks zone a).octets).left in
      length-put desks (8198 * a.desk) (left ++ replicate (8198 - length left) 0)

  pub walked-store : length (walked c s desks store zone a).store ≡ length store
  unfolding walked
  walked-store = all-store c s store (split (reading_of s desks zone a).octets).packets

  module _ (z : Sized s) (S : Sound s) (desk : a.desk < s.channels) where
    pub walked-sound : Watched s c → a.counter.0 < 0x1000000 → Sound (walked c s desks store zone a).station
    unfolding walked
    walked-sound w low =
        let sp = split (reading_of s desks zone a).octets in
        let j = judged_all c s store sp.packets in
        desk-sound j.station a.desk _ (all-sized c s store sp.packets z) (omega (arith, S.set_up.few))
        (record { few = unfinished-few (split-left (reading_of s desks zone a).octets); counter = low; unseen = λ e. absurd (true≢false e) })
        (all_sound c s store sp.packets z S w)

    pub walked-desks-sound : length desks ≡ 8198 * s.channels → DesksSound s desks
        → DesksSound (walked c s desks store zone a).station (walked c s desks store zone a).desks
    unfolding walked
    walked-desks-sound l h =
        let xs = (reading_of s desks zone a).octets in
        let t = all-stays c s store (split xs).packets in
        desks-sound (stays-sized t z) (rw t.channels S.set_up.few) (rw t.channels l) (stays-desks t desks h) (split-left xs) a.desk
        (rw t.channels desk) _ refl

-- the same with other events
abbrev pub told : Walked → List Event → Walked
told w es = record { station = w.station; desks = w.desks; store = w.store; events = es }

-- what is left unfinished is held
abbrev pub held_on : Station → List ℕ → List ℕ → Accepted → List Event → List ℕ → Walked
held_on s desks store a es left =
    record {
      station = with_desk s a.desk (record { held = length left; seen = true; counter = a.counter });
      desks = with_held desks a.desk left;
      store = store;
      events = es;
    }

module _ (c : Channel) (s : Station) (desks store : List ℕ) (a : Accepted) where
  pub walked_from_lem : (zone : List ℕ)
      → walked c s desks store zone a
      ≡ walked_from c s desks store a (reading_of s desks zone a).events (reading_of s desks zone a).octets
  unfolding walked
  walked_from_lem zone = refl

  module _ (es : List Event) (xs : List ℕ) where
    from-left : split xs ≡ unfinished xs → walked_from c s desks store a es xs ≡ held_on s desks store a es xs
    unfolding judged_all
    from-left e =
        ap (walked_by c s desks store a es) e ∙ ap (told (held_on s desks store a es xs)) (append-nil (es ++ []) ∙ append-nil es)

    from_next : (p : List ℕ) (rest : List ℕ) → split xs ≡ behind p (split rest)
        → walked_from c s desks store a es xs
        ≡ walked_from c (judged c s store p).station desks (judged c s store p).store a (es ++ (judged c s store p).events) rest
    unfolding judged_all
    from_next p rest e =
        let j = judged c s store p in
        let k = judged_all c j.station j.store (split rest).packets in
        ap (walked_by c s desks store a es) e
        ∙ ap (λ (fs : List Event). told (walked_from c j.station desks j.store a [] rest) (fs ++ bad_events (split rest).bad))
        (sym (append_assoc es j.events k.events))

  -- the packet that is carried on into the zone, of which r octets were lacking
  module _ (es : List Event) (held zone : List ℕ) {h : Packet} (e : look_of (held ++ zone) ≡ Good h) (r : ℕ) (lacked : length held + r ≡ size_of h) where
    pub from-carried : r ≤ length zone
        → walked_from c s desks store a es (held ++ zone)
        ≡ walked_from c (judged c s store (held ++ take r zone)).station desks (judged c s store (held ++ take r zone)).store a
        (es ++ (judged c s store (held ++ take r zone)).events) (drop r zone)
    from-carried l = from_next es (held ++ zone) (held ++ take r zone) (drop r zone) (carried-whole held zone e r lacked l)

    pub from-longer : length zone < r → walked_from c s desks store a es (held ++ zone) ≡ held_on s desks store a es (held ++ zone)
    from-longer l = from-left es (held ++ zone) (carried-part held zone e r lacked l)

-- "It must have room for at least 300 events": three octets are read for each event, the carried packet's apart, which are three at most
spent : (c : Channel) (s : Station) (store xs : List ℕ) {sp : Split} → Wholes sp.packets → Cuts xs sp
    → 3 * (length (judged_all c s store sp.packets).events + length (bad_events sp.bad)) ≤ length xs
spent c s store xs {sp} w (at-end b e) =
    rw b (omega (arith, all-few c s store sp.packets w, length-append (flatten sp.packets) sp.left, ap length e))
spent c s store xs {sp} w (at-bad b l rest q e) =
    rw b
    (omega (
      arith,
      all-few c s store sp.packets w,
      length-append (flatten sp.packets) rest,
      ap length e,
      (look-tells rest q).0,
    ))

pub from-spent : (c : Channel) (s : Station) (desks store : List ℕ) (a : Accepted) (es : List Event) (xs : List ℕ)
    → 3 * length (walked_from c s desks store a es xs).events ≤ 3 * length es + length xs
from-spent c s desks store a es xs =
    let sp = split xs in
    let fs = (judged_all c s store sp.packets).events in
    omega (
      arith,
      spent c s store xs (split-wholes xs) (split-cuts xs),
      length-append (es ++ fs) (bad_events sp.bad),
      length-append es fs,
    )

-- the greatest number of events: packets in one zone, then a whole frame
all_most : (c : Channel) (s : Station) (store : List ℕ) (ps : List (List ℕ)) → Wholes ps → length (flatten ps) ≤ 884
    → 7 * length (judged_all c s store ps).events ≤ length (flatten ps) + 5 * going s.slots
unfolding judged_all flatten
all_most c s store [] w l = omega arith
all_most c s store (p ∷ ps) w l =
    let j = judged c s store p in
    let both = length-append p (flatten ps) in
    omega (
      arith,
      most c s store p w.0 (omega arith),
      all_most c j.station j.store ps w.1 (omega arith),
      length-append j.events (judged_all c j.station j.store ps).events,
    )

-- a bad header has six octets, and one event
cuts-most : (c : Channel) (s : Station) (store xs : List ℕ) {sp : Split} → length xs ≤ 884 → Wholes sp.packets → Cuts xs sp
    → 7 * (length (judged_all c s store sp.packets).events + length (bad_events sp.bad)) ≤ length xs + 1 + 5 * going s.slots
cuts-most c s store xs {sp} l w (at-end b e) =
    let all = sym (ap length e) ∙ length-append (flatten sp.packets) sp.left in
    rw b (omega (arith, all_most c s store sp.packets w (omega arith)))
cuts-most c s store xs {sp} l w (at-bad b none rest q e) =
    let all = sym (ap length e) ∙ length-append (flatten sp.packets) rest in
    rw b (omega (arith, all_most c s store sp.packets w (omega arith), (look-tells rest q).0))

from-most : (c : Channel) (s : Station) (desks store : List ℕ) (a : Accepted) (es : List Event) (xs : List ℕ) → length xs ≤ 884
    → 7 * length (walked_from c s desks store a es xs).events ≤ 7 * length es + length xs + 1 + 5 * going s.slots
from-most c s desks store a es xs l =
    let sp = split xs in
    let fs = (judged_all c s store sp.packets).events in
    omega (
      arith,
      cuts-most c s store xs l (split-wholes xs) (split-cuts xs),
      length-append (es ++ fs) (bad_events sp.bad),
      length-append es fs,
    )

abbrev count : Walked → ℕ
count w = length w.events

module _ (c : Channel) (s : Station) (z : Sized s) (desks store : List ℕ) (a : Accepted) where
  module _ (zone : List ℕ) (size : length zone ≡ 884) where
    -- read at the pointer after one event, or none
    pointer-few : (es : List Event) → length es ≤ 1
        → length (walked_from c s desks store a es (from_pointer a.pointer zone)).events ≤ 151
    pointer-few es l =
        let xs = from_pointer a.pointer zone in
        let inside = from-few a.pointer zone in
        omega (arith, from-most c s desks store a es xs (omega arith), few-going z)

    carried-few : {h : Packet} (held : List ℕ) → Unfinished held → look_of (held ++ zone) ≡ Good h
        → length (walked_from c s desks store a [] (held ++ zone)).events ≤ 151
    carried-few {h} held u e =
        let lacks = carried-lacks held zone e u in
        let r : ℕ = size_of h - length held in
        let lacked : length held + r ≡ size_of h = omega arith in
        elim (dec_lt 884 r) [
          | yes l ↦ omega (arith, ap count (from-longer c s desks store a [] held zone e r lacked (omega arith)))
          | no l ↦
              let p = held ++ take r zone in
              let j = judged c s store p in
              let left = length-drop r zone in
              omega (
                arith,
                ap count (from-carried c s desks store a [] held zone e r lacked (omega arith)),
                from-most c j.station desks j.store a j.events (drop r zone) (omega arith),
                most-carried c s store p z,
                three c s store p,
              )
        ]

    reads-few : {r : Reading} (held : List ℕ) → Unfinished held → Reads held zone a.pointer r
        → length (walked_from c s desks store a r.events r.octets).events ≤ 151
    reads-few held u (afresh e) = pointer-few [] (omega arith)
    reads-few held u (too_few e) = absurd (omega (arith, look-tells (held ++ zone) e, length-append held zone))
    reads-few held u (bad-header e) = pointer-few (bare 3 ∷ []) (omega arith)
    reads-few held u (goes_on e f) = carried-few held u e
    reads-few held u (points-off e f) = pointer-few (bare 2 ∷ []) (omega arith)

  -- "no frame produces more than 300": none produces more than 151
  pub walked-few : (zone : List ℕ) → length zone ≡ 884 → Unfinished (held_at s desks a.desk) → length (walked c s desks store zone a).events ≤ 151
  walked-few zone size u = rw (walked_from_lem c s desks store a zone) (by (gap (desk_at s a.desk) a.counter) refl)
    where
      by : (b : Bool) → gap (desk_at s a.desk) a.counter ≡ b
          → length (walked_from c s desks store a (reading_of s desks zone a).events (reading_of s desks zone a).octets).events ≤ 151
      by true e = rw (reading-gap s desks zone a e) (pointer-few zone size (bare 1 ∷ []) (omega arith))
      by false e =
          rw (reading-seamless s desks zone a e)
          (reads-few zone size (held_at s desks a.desk) u (reads_as (held_at s desks a.desk) zone a.pointer))

-- the octets that a desk of a sound station holds
module _ {s : Station} (S : Sound s) (desks : List ℕ) (l : length desks ≡ 8198 * s.channels) (i : ℕ) (low : i < s.channels) where
  pub held-length : length (held_at s desks i) ≡ (desk_at s i).held
  held-length = whole_part desks (8198 * i) (desk_at s i).held (omega (arith, (S.desks i low).few))

  pub desk-unfinished : DesksSound s desks → Unfinished (held_at s desks i)
  desk-unfinished h =
      let n = (desk_at s i).held in
      let few = (S.desks i low).few in
      rw (take-take n 8198 (drop (8198 * i) desks) (omega arith))
      at (held-unfinished n (desk_octets i desks) (h.octets i low) (omega (arith, whole_part desks (8198 * i) 8198 (omega arith))))

-- everything that a frame keeps
pub record Kept (s : Station) (desks store : List ℕ) (i : ℕ) (w : Walked) : Type 0 where
  pub spacecraft : w.station.spacecraft ≡ s.spacecraft
  pub channels : w.station.channels ≡ s.channels
  pub watched : w.station.watched ≡ s.watched
  pub blocks : w.station.blocks ≡ s.blocks
  pub others : (j : ℕ) → (j ≡ i → ⊥) → (desk_at w.station j ≡ desk_at s j) × (desk_octets j w.desks ≡ desk_octets j desks)
  pub sized : Sized w.station
  pub sound : Sound w.station
  pub octets : DesksSound w.station w.desks
  pub desked : length w.desks ≡ length desks
  pub stored : length w.store ≡ length store
  -- "no frame produces more than 300"
  pub few : length w.events ≤ 151

-- THE law of a frame that is not refused
pub walked_keeps : (c : Channel) (s : Station) (a : Accepted) (zone desks store list : List ℕ) → Sized s → Lent c s a zone desks store list
    → DesksSound s desks → a.counter.0 < 0x1000000 → Kept s desks store a.desk (walked c s desks store zone a)
unfolding walked
walked_keeps c s a zone desks store list z l h low =
    let xs = (reading_of s desks zone a).octets in
    let t = all-stays c s store (split xs).packets in
    record {
      spacecraft = t.spacecraft;
      channels = t.channels;
      watched = t.watched;
      blocks = t.blocks;
      others =
          λ j f. (
            desk-other (judged_all c s store (split xs).packets).station a.desk _ j f ∙ ap (λ (ds : List Desk). get_or ds j empty_desk) t.desks,
            held-other desks a.desk (split xs).left (omega (arith, unfinished-few (split-left xs))) j f,
          );
      sized = walked_sized c s desks store zone a z;
      sound = walked-sound c s desks store zone a z l.sound l.desk l.watched low;
      octets = walked-desks-sound c s desks store zone a z l.sound l.desk l.desked h;
      desked = walked-desks c s desks store zone a;
      stored = walked-store c s desks store zone a;
      few = walked-few c s z desks store a zone l.frame (desk-unfinished l.sound desks l.desked a.desk l.desk h);
    }

-- the same behind other events
abbrev pub led : List Event → Walked → Walked
led es w = told w (es ++ w.events)

pub from-led : (c : Channel) (s : Station) (desks store : List ℕ) (a : Accepted) (es : List Event) (xs : List ℕ)
    → walked_from c s desks store a es xs ≡ led es (walked_from c s desks store a [] xs)
from-led c s desks store a es xs =
    ap (told (walked_from c s desks store a [] xs))
    (append_assoc es (judged_all c s store (split xs).packets).events (bad_events (split xs).bad))

-- what is promised behind some events is promised with them
pub tells-led : (es : List Event) {w : Walked} {n : ℕ} {list₀ : List ℕ} {t : Station} {m : ℕ} {desks store list : List ℕ}
    → TellsWalked w (n + length es) (put list₀ (3 * n) (flat es)) t m desks store list → TellsWalked (led es w) n list₀ t m desks store list
tells-led es {w} {n} {list₀} u =
    record {
      station = u.station;
      events = u.events ∙ omega (arith, length-append es w.events);
      desked = u.desked;
      stored = u.stored;
      listed = u.listed ∙ flat-behind es w.events list₀ n;
    }
