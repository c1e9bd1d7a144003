-- What a packet does, case by case, so that no proof has to open the definitions; and what is known in each case. Assumes nothing.
use Rattle.std.specs.Prelude.{if◌then◌else◌, Option, Some, None}
use mathlib.Core.Path.{◌≡◌, refl, sym, subst, ◌∙◌}
use mathlib.Core.Bool.{Bool, true, false, not, ◌&&◌}
use mathlib.Core.Logic.{◌⊎◌, inl, inr, ⊎_elim}
use mathlib.Core.List.{List, [], ◌∷◌}
use Prim.Native.Nat.{ℕ, ◌+◌, ◌-◌, ◌≤◌, ◌<◌}
use native.Mathlib.Decide.{ℕ_discrete}
use native.Mathlib.Omega.{arith}
use borrow.Author.Tests.{ltb-true, ltb-false, leb-true, leb-false, eq-eqb, ne_eqb, lt-ltb, le-ltb, le-leb, lt-leb, not-false}
use lib.Dec.{ltb, leb, eqb}
use lib.ListN.{length, drop, length-take}
use Rattle.octets.specs.Choice.{Decides}
use Rattle.octets.specs.Choice.Decides.{fails}
use Rattle.octets.specs.Number.{part}
use Rattle.octets.proofs.Lists.{if-cases, whole_part}
use Rattle.octets.proofs.Decide.{told-true, decides-of, decides-same, decides_eqb, decides-leb, decides_not, ◌and◌}
use Rattle.crc.specs.Crc.{crc_of}
use Rattle.frame.specs.declared.Channel.{Channel}
use Rattle.packet.specs.declared.Packet.{Packet}
use Rattle.packet.specs.Kinds.{next_count, count_follows}
use Rattle.packet.specs.Header.{packet_of}
use Rattle.packet.proofs.Looks.{Header, look-good}
use Rattle.transport.specs.declared.Transport.{Transport}
use Rattle.transport.specs.Length.{transport_of, good_length, transport_size, need, rest}
use Rattle.transport.specs.Shape.{first_fits, whole_fits, middle_fits, last_fits, fits, begun_of}
use Rattle.transport.proofs.Length.{need-covers, rest-bounds}
use Rattle.transport.proofs.Begins.{shape-decides}
use Rattle.state.specs.declared.Slot.{Slot}
use Rattle.state.specs.declared.Station.{Station}
use Rattle.state.specs.Slots.{slot_at, need_of}
use Rattle.state.specs.Blocks.{room}
use Rattle.room.specs.Find.{free_slot, file_of}
use Rattle.room.specs.Move.{with_file, opened, let_go}
use Rattle.events.specs.Event.{Event, of, at}
use Rattle.judge.specs.Judge.{Judged, gives, after, data_of, check_of, is_intact, written, first_slot, next_slot, next_kind, opens, placed, begins, starts, goes_on, continues, filed, judged_as, judged}
use Rattle.judge.specs.Packets.{Undamaged, Starting, Following}
use Rattle.judge.specs.Contract.{Whole}

-- "event 10, and for a whole file event 12 after it"
abbrev pub open_events : Packet → ℕ → List Event
open_events h k = at 10 h.application.0 k ∷ (if eqb h.flags 3 then at 12 h.application.0 k ∷ [] else [])

-- a file that begins
module _ (c : Channel) (s : Station) (store : List ℕ) (h : Packet) (d : List ℕ) where
  pub opens_as : (k : ℕ) (t : Transport) → opens c s store h d k t
      ≡ gives (opened s k (first_slot c h t)) (written (opened s k (first_slot c h t)) k 0 d store) (open_events h k)
  unfolding opens
  opens_as k t = refl

  pub opens-first : (k : ℕ) (t : Transport) → (h.flags ≡ 3 → ⊥) → opens c s store h d k t
      ≡ gives (opened s k (first_slot c h t)) (written (opened s k (first_slot c h t)) k 0 d store) (at 10 h.application.0 k ∷ [])
  opens-first k t f = opens_as k t ∙ rw (ne_eqb h.flags 3 f)

  pub opens-whole : (k : ℕ) (t : Transport) → h.flags ≡ 3 → opens c s store h d k t
      ≡ gives (opened s k (first_slot c h t)) (written (opened s k (first_slot c h t)) k 0 d store)
      (at 10 h.application.0 k ∷ at 12 h.application.0 k ∷ [])
  opens-whole k t e = opens_as k t ∙ rw (eq-eqb h.flags 3 e)

  module _ {b : Option Transport} where
    pub begins-wrong : b ≡ None → begins c s store h d b ≡ gives s store (of 7 h.application.0 ∷ [])
    unfolding begins
    begins-wrong e = rw e

    module _ {t : Transport} (e : b ≡ Some t) where
      pub begins-no-slot : free_slot s ≡ None → begins c s store h d b ≡ gives s store (of 8 h.application.0 ∷ [])
      unfolding begins placed
      begins-no-slot f = rw (e, f)

      pub begins-no-room : {k : ℕ} → free_slot s ≡ Some k → room s < need t.bits
          → begins c s store h d b ≡ gives s store (of 9 h.application.0 ∷ [])
      unfolding begins placed
      begins-no-room f l = rw (e, f, lt-ltb (room s) (need t.bits) l)

      pub begins-opens : {k : ℕ} → free_slot s ≡ Some k → need t.bits ≤ room s → begins c s store h d b ≡ opens c s store h d k t
      unfolding begins placed
      begins-opens f l = rw (e, f, le-ltb (room s) (need t.bits) l)

  -- "Flags 1 (first) or 3 (whole)"
  module _ {f : Option ℕ} where
    pub starts_none : f ≡ None → starts c s store h d f ≡ begins c s store h d (begun_of h.flags d)
    unfolding starts
    starts_none e = rw e

    pub starts-old : {k : ℕ} → f ≡ Some k
        → starts c s store h d f ≡ after (at 6 h.application.0 k ∷ []) (begins c (let_go s k) store h d (begun_of h.flags d))
    unfolding starts
    starts-old e = rw e

-- "Flags 0 (middle) or 2 (last)"
module _ (s : Station) (store : List ℕ) (h : Packet) (d : List ℕ) {f : Option ℕ} where
  pub continues-none : f ≡ None → continues s store h d f ≡ gives s store (of 5 h.application.0 ∷ [])
  unfolding continues
  continues-none e = rw e

  module _ {k : ℕ} (e : f ≡ Some k) where
    pub continues-ends : goes_on (slot_at s k) h d ≡ false → continues s store h d f ≡ gives (let_go s k) store (at 6 h.application.0 k ∷ [])
    unfolding continues
    continues-ends g = rw (e, g)

    module _ (g : goes_on (slot_at s k) h d ≡ true) where
      pub continues-as : continues s store h d f
          ≡ gives (with_file s s.owner k (next_slot (slot_at s k) h)) (written s k (slot_at s k).accepted d store)
          (at (next_kind h) h.application.0 k ∷ [])
      unfolding continues
      continues-as = rw (e, g)

      pub continues-on : (h.flags ≡ 2 → ⊥) → continues s store h d f
          ≡ gives (with_file s s.owner k (next_slot (slot_at s k) h)) (written s k (slot_at s k).accepted d store)
          (at 11 h.application.0 k ∷ [])
      continues-on l = continues-as ∙ rw (ne_eqb h.flags 2 l)

      pub continues-last : h.flags ≡ 2 → continues s store h d f
          ≡ gives (with_file s s.owner k (next_slot (slot_at s k) h)) (written s k (slot_at s k).accepted d store)
          (at 12 h.application.0 k ∷ [])
      continues-last l = continues-as ∙ rw (eq-eqb h.flags 2 l)

module _ (c : Channel) (s : Station) (store : List ℕ) (h : Packet) (d : List ℕ) where
  pub filed-starts : Starting h → filed c s store h d ≡ starts c s store h d (file_of s c h.application)
  unfolding filed
  filed-starts = ⊎_elim (λ e. rw (eq-eqb h.flags 1 e)) (λ e. rw e)

  pub filed-later : (Starting h → ⊥) → filed c s store h d ≡ continues s store h d (file_of s c h.application)
  unfolding filed
  filed-later f = rw (ne_eqb h.flags 1 (λ e. f (inl e)), ne_eqb h.flags 3 (λ e. f (inr e)))

-- a whole packet, with its header as it was read
module _ (c : Channel) (s : Station) (store p : List ℕ) {h : Packet} (read : h ≡ packet_of p) where
  pub judged-fill : 2046 < h.application.0 → judged c s store p ≡ gives s store []
  unfolding judged judged_as
  judged-fill l = rw (← read, lt-leb h.application.0 2015 (omega arith), lt-leb h.application.0 2046 l)

  pub judged-other : 2015 < h.application.0 → h.application.0 ≤ 2046 → judged c s store p ≡ gives s store (of 13 h.application.0 ∷ [])
  unfolding judged judged_as
  judged-other l m = rw (← read, lt-leb h.application.0 2015 l, le-leb h.application.0 2046 m)

  module _ (file : h.application.0 ≤ 2015) where
    judged-by : {b : Bool} → is_intact p ≡ b
        → judged c s store p ≡ (if b then filed c s store h (data_of p) else gives s store (of 4 h.application.0 ∷ []))
    unfolding judged judged_as
    judged-by e = rw (← read, le-leb h.application.0 2015 file, e) refl

    pub judged-damaged : is_intact p ≡ false → judged c s store p ≡ gives s store (of 4 h.application.0 ∷ [])
    judged-damaged e = judged-by e

    module _ (intact : is_intact p ≡ true) where
      pub judged-starts : Starting h → judged c s store p ≡ starts c s store h (data_of p) (file_of s c h.application)
      judged-starts e = judged-by intact ∙ filed-starts c s store h (data_of p) e

      pub judged-later : (Starting h → ⊥) → judged c s store p ≡ continues s store h (data_of p) (file_of s c h.application)
      judged-later f = judged-by intact ∙ filed-later c s store h (data_of p) f

-- what becomes of a file that begins: every case, with what is known in it
pub data Begins (c : Channel) (s : Station) (store : List ℕ) (h : Packet) (d : List ℕ) : Judged → Type 0 where
  wrong-shape : begun_of h.flags d ≡ None → Begins c s store h d (gives s store (of 7 h.application.0 ∷ []))
  no_slot : {t : Transport} → begun_of h.flags d ≡ Some t → free_slot s ≡ None
      → Begins c s store h d (gives s store (of 8 h.application.0 ∷ []))
  no_room : {t : Transport} {k : ℕ} → begun_of h.flags d ≡ Some t → free_slot s ≡ Some k → room s < need t.bits
      → Begins c s store h d (gives s store (of 9 h.application.0 ∷ []))
  opens_at : {t : Transport} {k : ℕ} → begun_of h.flags d ≡ Some t → free_slot s ≡ Some k → need t.bits ≤ room s
      → Begins c s store h d
      (gives (opened s k (first_slot c h t)) (written (opened s k (first_slot c h t)) k 0 d store) (open_events h k))

-- what becomes of a whole packet: every case, with what is known in it
pub data Judges (c : Channel) (s : Station) (store p : List ℕ) : Judged → Type 0 where
  fill : 2046 < (packet_of p).application.0 → Judges c s store p (gives s store [])
  other : 2015 < (packet_of p).application.0 → (packet_of p).application.0 ≤ 2046
      → Judges c s store p (gives s store (of 13 (packet_of p).application.0 ∷ []))
  damaged : (packet_of p).application.0 ≤ 2015 → is_intact p ≡ false
      → Judges c s store p (gives s store (of 4 (packet_of p).application.0 ∷ []))
  begins-new : Undamaged p → Starting (packet_of p) → file_of s c (packet_of p).application ≡ None
      → {j : Judged} → Begins c s store (packet_of p) (data_of p) j → Judges c s store p j
  begins-over : Undamaged p → Starting (packet_of p) → {k : ℕ} → file_of s c (packet_of p).application ≡ Some k
      → {j : Judged} → Begins c (let_go s k) store (packet_of p) (data_of p) j
      → Judges c s store p (after (at 6 (packet_of p).application.0 k ∷ []) j)
  stray : Undamaged p → (Starting (packet_of p) → ⊥) → file_of s c (packet_of p).application ≡ None
      → Judges c s store p (gives s store (of 5 (packet_of p).application.0 ∷ []))
  goes_onward : Undamaged p → (Starting (packet_of p) → ⊥) → {k : ℕ} → file_of s c (packet_of p).application ≡ Some k
      → goes_on (slot_at s k) (packet_of p) (data_of p) ≡ true
      → Judges c s store p
      (gives (with_file s s.owner k (next_slot (slot_at s k) (packet_of p))) (written s k (slot_at s k).accepted (data_of p) store)
      (at (next_kind (packet_of p)) (packet_of p).application.0 k ∷ []))
  breaks-off : Undamaged p → (Starting (packet_of p) → ⊥) → {k : ℕ} → file_of s c (packet_of p).application ≡ Some k
      → goes_on (slot_at s k) (packet_of p) (data_of p) ≡ false
      → Judges c s store p (gives (let_go s k) store (at 6 (packet_of p).application.0 k ∷ []))

pub begins-as : (c : Channel) (s : Station) (store : List ℕ) (h : Packet) (d : List ℕ)
    → Begins c s store h d (begins c s store h d (begun_of h.flags d))
begins-as c s store h d = by (begun_of h.flags d) refl
  where
    fitting : (t : Transport) → begun_of h.flags d ≡ Some t → (k : ℕ) → free_slot s ≡ Some k → (b : Bool) → ltb (room s) (need t.bits) ≡ b
        → Begins c s store h d (begins c s store h d (begun_of h.flags d))
    fitting t e k f true l =
        let m = ltb-true (room s) (need t.bits) l in
        rw (begins-no-room c s store h d e f m) (no_room e f m)
    fitting t e k f false l =
        let m = ltb-false (room s) (need t.bits) l in
        rw (begins-opens c s store h d e f m, opens_as c s store h d k t) (opens_at e f m)

    placing : (t : Transport) → begun_of h.flags d ≡ Some t → (f : Option ℕ) → free_slot s ≡ f
        → Begins c s store h d (begins c s store h d (begun_of h.flags d))
    placing t e None f = rw (begins-no-slot c s store h d e f) (no_slot e f)
    placing t e (Some k) f = fitting t e k f (ltb (room s) (need t.bits)) refl

    by : (b : Option Transport) → begun_of h.flags d ≡ b → Begins c s store h d (begins c s store h d (begun_of h.flags d))
    by None e = rw (begins-wrong c s store h d e) (wrong-shape e)
    by (Some t) e = placing t e (free_slot s) refl

pub starting : (h : Packet) → Dec (Starting h)
starting h =
    elim (ℕ_discrete h.flags 1) [
      | yes e ↦ yes (inl e)
      | no f ↦ elim (ℕ_discrete h.flags 3) [ yes e ↦ yes (inr e) | no g ↦ no (⊎_elim f g) ]
    ]

pub judges-as : (c : Channel) (s : Station) (store p : List ℕ) → Judges c s store p (judged c s store p)
judges-as c s store p = by (leb a 2015) (leb a 2046) (is_intact p) refl refl refl
  where
    h : Packet
    h = packet_of p

    a : ℕ
    a = h.application.0

    starts_with : Undamaged p → Starting h → (f : Option ℕ) → file_of s c h.application ≡ f → Judges c s store p (judged c s store p)
    starts_with u e None f =
        rw (judged-starts c s store p refl u.file u.intact e, starts_none c s store h (data_of p) f)
        (begins-new u e f (begins-as c s store h (data_of p)))
    starts_with u e (Some k) f =
        rw (judged-starts c s store p refl u.file u.intact e, starts-old c s store h (data_of p) f)
        (begins-over u e f (begins-as c (let_go s k) store h (data_of p)))

    goes_with : Undamaged p → (Starting h → ⊥) → (k : ℕ) → file_of s c h.application ≡ Some k
        → (b : Bool) → goes_on (slot_at s k) h (data_of p) ≡ b → Judges c s store p (judged c s store p)
    goes_with u e k f true g =
        rw (judged-later c s store p refl u.file u.intact e, continues-as s store h (data_of p) f g) (goes_onward u e f g)
    goes_with u e k f false g =
        rw (judged-later c s store p refl u.file u.intact e, continues-ends s store h (data_of p) f g) (breaks-off u e f g)

    later-with : Undamaged p → (Starting h → ⊥) → (f : Option ℕ) → file_of s c h.application ≡ f → Judges c s store p (judged c s store p)
    later-with u e None f =
        rw (judged-later c s store p refl u.file u.intact e, continues-none s store h (data_of p) f) (stray u e f)
    later-with u e (Some k) f = goes_with u e k f (goes_on (slot_at s k) h (data_of p)) refl

    filed-as : Undamaged p → Judges c s store p (judged c s store p)
    filed-as u =
        elim (starting h) [
          | yes e ↦ starts_with u e (file_of s c h.application) refl
          | no e ↦ later-with u e (file_of s c h.application) refl
        ]

    by : (file reserved right : Bool) → leb a 2015 ≡ file → leb a 2046 ≡ reserved → is_intact p ≡ right
        → Judges c s store p (judged c s store p)
    by true reserved true l m e = filed-as (record { file = leb-true a 2015 l; intact = e })
    by true reserved false l m e =
        let low = leb-true a 2015 l in
        rw (judged-damaged c s store p refl low e) (damaged low e)
    by false true right l m e =
        let from = leb-false a 2015 l in
        let to = leb-true a 2046 m in
        rw (judged-other c s store p refl from to) (other from to)
    by false false right l m e =
        let from = leb-false a 2046 m in
        rw (judged-fill c s store p refl from) (fill from)

-- a whole packet: "A packet has 7 + length octets", two more for the check of one of a file, and data for one block at most
module _ {p : List ℕ} (w : Whole p) where
  whole-header : Header p (packet_of p)
  whole-header = look-good p (packet_of p) w.good

  pub whole-smallest : 7 ≤ length p
  whole-smallest = omega (arith, w.all, whole-header.smallest)

  pub whole-largest : length p ≤ 8198
  whole-largest = omega (arith, w.all, whole-header.largest)

  pub whole-checked : (packet_of p).application.0 ≤ 2015 → 9 ≤ length p
  whole-checked l = omega (arith, w.all, whole-header.checked l)

  pub data-few : length (data_of p) ≤ 8190
  data-few = omega (arith, length-take (length p - 8) (drop 6 p), whole-largest)

pub data-length : (p : List ℕ) → 8 ≤ length p → length (data_of p) ≡ length p - 8
data-length p l = whole_part p 6 (length p - 8) (omega arith)

-- the data as the code cuts it out
pub data-cut : (p : List ℕ) → part 6 (length p - 2 - 6) p ≡ data_of p
data-cut p =
    let k : length p - 2 - 6 ≡ length p - 8 = omega arith in
    rw k

pub intact-cut : (p : List ℕ) {x y : ℕ} → x ≡ crc_of (part 6 (length p - 2 - 6) p) → y ≡ check_of p → eqb x y ≡ is_intact p
intact-cut p e f = rw (e, f, data-cut)

-- "First: 8,190 octets and N at least 2. Whole: 10 + L/8 octets and N = 1."
pub record RightStart (flags : ℕ) (d : List ℕ) (t : Transport) : Type 0 where
  pub long : 10 ≤ length d
  pub is : t ≡ transport_of d
  pub good : good_length t.bits ≡ true
  pub shape :
      ((flags ≡ 1) × (length d ≡ 8190) × (2 ≤ need t.bits)) ⊎ ((flags ≡ 3) × (length d ≡ transport_size t.bits) × (need t.bits ≡ 1))
  pub few : length d ≤ 8190
  pub some : 1 ≤ need t.bits

abbrev RightIf : ℕ → List ℕ → Option Transport → Type 0
RightIf flags d None = Unit {0}
RightIf flags d (Some t) = RightStart flags d t

pub begun-right : (flags : ℕ) (d : List ℕ) {t : Transport} → begun_of flags d ≡ Some t → RightStart flags d t
unfolding begun_of first_fits whole_fits
begun-right flags d e = subst (RightIf flags d) e right
  where
    L : ℕ
    L = (transport_of d).bits

    first : 10 ≤ length d → good_length L ≡ true → (eqb flags 1 && first_fits (length d) L) ≡ true → RightStart flags d (transport_of d)
    first l g e =
        let (one, shape) = told-true (decides_eqb flags 1 and (decides_eqb (length d) 8190 and decides-leb 2 (need L))) e in
        record { long = l; is = refl; good = g; shape = inl (one, shape.0, shape.1); few = omega arith; some = omega arith }

    whole : 10 ≤ length d → good_length L ≡ true → (eqb flags 3 && whole_fits (length d) L) ≡ true → RightStart flags d (transport_of d)
    whole l g e =
        let (three, shape) = told-true (decides_eqb flags 3 and (decides_eqb (length d) (transport_size L) and decides_eqb (need L) 1)) e in
        record {
          long = l;
          is = refl;
          good = g;
          shape = inr (three, shape.0, shape.1);
          few = omega (arith, need-covers L);
          some = omega arith;
        }

    right : RightIf flags d (begun_of flags d)
    right =
        if-cases (RightIf flags d) (ltb (length d) 10) (λ e. tt)
        (λ e.
        let l = ltb-false (length d) 10 e in
        if-cases (RightIf flags d) (not (good_length L)) (λ e. tt)
        (λ e.
        let g = not-false (good_length L) e in
        if-cases (RightIf flags d) (eqb flags 1 && first_fits (length d) L) (first l g)
        (λ e. if-cases (RightIf flags d) (eqb flags 3 && whole_fits (length d) L) (whole l g) (λ e. tt))))

pub right-begun : (flags : ℕ) (d : List ℕ) {t : Transport} → RightStart flags d t → begun_of flags d ≡ Some t
unfolding first_fits whole_fits
right-begun flags d {t} r =
    sym
    (shape-decides flags {d = d} {t = t} (record { long = r.long; is = r.is; good = r.good }) true
    (⊎_elim (λ (one, size, two). rw (one, size, le-leb 2 (need t.bits) two))
    (λ (three, size, only). rw (three, eq-eqb (length d) (transport_size t.bits) size, only))
    r.shape))

module _ (x : Slot) (h : Packet) (d : List ℕ) where
  middle-fits : h.flags ≡ 0 → goes_on x h d ≡ middle_fits (length d) x.bits x.accepted x.count h.count
  unfolding goes_on fits
  middle-fits e = rw e

  last_fits_lem : h.flags ≡ 2 → goes_on x h d ≡ last_fits (length d) x.bits x.accepted x.count h.count
  unfolding goes_on fits
  last_fits_lem e = rw e

  none-fits : (Starting h → ⊥) → (h.flags ≡ 0 → ⊥) → (h.flags ≡ 2 → ⊥) → goes_on x h d ≡ false
  unfolding goes_on fits
  none-fits f p q =
      rw (
        ne_eqb h.flags 1 (λ e. f (inl e)),
        ne_eqb h.flags 3 (λ e. f (inr e)),
        ne_eqb h.flags 0 p,
        ne_eqb h.flags 2 q,
      )

  following-middle : h.flags ≡ 0 → Decides (Following x h d) (goes_on x h d)
  unfolding middle_fits count_follows
  following-middle e =
      decides-of (middle-fits e)
      (decides-same (λ ((count, size), more). record { count = count; shape = inl (e, size, more); few = omega arith })
      (λ w. ⊎_elim (λ (f, size, more). ((w.count, size), more)) (λ (f, last, size). absurd (omega arith)) w.shape)
      (decides_eqb h.count.0 (next_count x.count).0 and decides_eqb (length d) 8190
      and decides_not (decides_eqb (x.accepted + 1) (need_of x))))

  following-last : h.flags ≡ 2 → Decides (Following x h d) (goes_on x h d)
  unfolding last_fits count_follows
  following-last e =
      decides-of (last_fits_lem e)
      (decides-same
      (λ ((count, last), size). record { count = count; shape = inr (e, last, size); few = omega (arith, rest-bounds x.bits) })
      (λ w. ⊎_elim (λ (f, size, more). absurd (omega arith)) (λ (f, last, size). ((w.count, last), size)) w.shape)
      (decides_eqb h.count.0 (next_count x.count).0 and decides_eqb (x.accepted + 1) (need_of x)
      and decides_eqb (length d) (rest x.bits)))

  -- THE test whether a packet goes on with a file is exact
  pub following-exactly : (Starting h → ⊥) → Decides (Following x h d) (goes_on x h d)
  following-exactly f =
      elim (ℕ_discrete h.flags 0) [
        | yes e ↦ following-middle e
        | no p ↦
            elim (ℕ_discrete h.flags 2) [
              | yes e ↦ following-last e
              | no q ↦ decides-of (none-fits f p q) (fails (λ w. ⊎_elim (λ u. p u.0) (λ u. q u.0) w.shape))
            ]
      ]

  pub goes-following : (Starting h → ⊥) → goes_on x h d ≡ true → Following x h d
  goes-following f = told-true (following-exactly f)
