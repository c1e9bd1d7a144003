-- How many events packets give at most, counted with the files that they end. Event 6 wants an incomplete file, and a packet that lies in one
-- zone is too short to leave a new one: it has seven octets for each event, but for five that an incomplete file less is worth. Assumes nothing.
use Rattle.std.specs.Prelude.{if◌then◌else◌, Some}
use mathlib.Core.Path.{◌≡◌, refl, sym, subst, ◌∙◌}
use mathlib.Core.Bool.{Bool, true, false, and-false}
use mathlib.Core.Logic.{⊎_elim}
use mathlib.Core.List.{List, [], ◌∷◌}
use Prim.Native.Nat.{ℕ, zero, suc, ◌+◌, ◌*◌, ◌≤◌, ◌<◌}
use native.Mathlib.Nat.{not-suc-le-zero, le_of_suc-le-suc}
use native.Mathlib.Omega.{arith}
use borrow.Author.Tests.{eq-eqb, eqb-true}
use lib.Dec.{eqb}
use lib.ListN.{length, get_or, set}
use Rattle.octets.proofs.Lists.{if-cases}
use Rattle.frame.specs.declared.Channel.{Channel}
use Rattle.packet.specs.declared.Packet.{Packet}
use Rattle.packet.specs.Header.{packet_of}
use Rattle.transport.specs.declared.Transport.{Transport}
use Rattle.transport.specs.Shape.{begun_of}
use Rattle.state.specs.declared.Slot.{Slot}
use Rattle.state.specs.declared.Station.{Station}
use Rattle.state.specs.Slots.{no_file, slot_at, held, incomplete, need_of}
use Rattle.state.specs.Sound.{Sized}
use Rattle.room.specs.Find.{free_slot}
use Rattle.room.specs.Move.{opened}
use Rattle.room.proofs.Find.{free-at, file-at}
use Rattle.room.proofs.Keeps.{Refiled, opened-refiles, let_go-refiles, next-refiles}
use Rattle.events.specs.Event.{Event, at}
use Rattle.judge.specs.Judge.{Judged, data_of, first_slot, next_slot, judged}
use Rattle.judge.specs.Contract.{Whole}
use Rattle.judge.proofs.Parts.{whole-smallest, whole-checked, data-length, begun-right, goes-following, Begins, Judges, judges-as}
use Rattle.judge.proofs.Parts.Begins.{wrong-shape, no_slot, no_room, opens_at}
use Rattle.judge.proofs.Parts.Judges.{fill, other, damaged, begins-new, begins-over, stray, goes_onward, breaks-off}
use Rattle.judge.proofs.Few.{opens-few}
use Rattle.judge.proofs.Keeps.{judged-stays, stays-sized}

-- how many of some slots have an incomplete file
unfoldable pub going : List Slot → ℕ
going [] = 0
going (x ∷ xs) = (if incomplete x then 1 else 0) + going xs

going-few : (xs : List Slot) → going xs ≤ length xs
unfolding going
going-few [] = omega arith
going-few (x ∷ xs) =
    if-cases (λ (n : ℕ). n + going xs ≤ suc (length xs)) (incomplete x) (λ e. omega (arith, going-few xs)) (λ e. omega (arith, going-few xs))

-- another file in slot k
going-set : (xs : List Slot) (k : ℕ) (y : Slot) → k < length xs
    → going (set xs k y) + (if incomplete (get_or xs k no_file) then 1 else 0) ≡ going xs + (if incomplete y then 1 else 0)
unfolding going
going-set [] k y low = absurd (not-suc-le-zero low)
going-set (x ∷ xs) zero y low = omega arith
going-set (x ∷ xs) (suc k) y low = omega (arith, going-set xs k y (le_of_suc-le-suc low))

-- a station with another file in slot k
module _ {s t : Station} {k : ℕ} {x : Slot} (r : Refiled s k x t) (low : k < length s.slots) where
  refiled-going : going t.slots + (if incomplete (slot_at s k) then 1 else 0) ≡ going s.slots + (if incomplete x then 1 else 0)
  refiled-going = subst (λ (u : Station). going u.slots + (if incomplete (slot_at s k) then 1 else 0) ≡ going s.slots + (if incomplete x then 1 else 0))
      (sym r.frame) (going-set s.slots k x low)

  -- an incomplete file is gone
  one_less : incomplete (slot_at s k) ≡ true → incomplete x ≡ false → going t.slots + 1 ≡ going s.slots
  one_less e f = rw (e, f) at refiled-going ∙ omega arith

  -- none goes and none comes
  as_many : incomplete (slot_at s k) ≡ false → incomplete x ≡ false → going t.slots ≡ going s.slots
  as_many e f = omega (arith, rw (e, f) at refiled-going)

free-going : (x : Slot) → held x ≡ false → incomplete x ≡ false
unfolding incomplete
free-going x e = rw e

none_going : incomplete no_file ≡ false
unfolding incomplete held
none_going = refl

-- a file of which all packets are accepted
all-going : (x : Slot) → x.accepted ≡ need_of x → incomplete x ≡ false
unfolding incomplete
all-going x e = rw (eq-eqb x.accepted (need_of x) e) (and-false (held x))

at_most_one : (b : Bool) → (if b then 1 else 0) ≤ 1
at_most_one true = omega arith
at_most_one false = omega arith

-- a file opened by a packet that is no first one of 8,190 octets is complete at once
opens-complete : (c : Channel) (s : Station) (h : Packet) (d : List ℕ) {t : Transport} {k : ℕ} → begun_of h.flags d ≡ Some t → free_slot s ≡ Some k
    → (h.flags ≡ 1 → length d ≡ 8190 → ⊥) → going (opened s k (first_slot c h t)).slots ≡ going s.slots
opens-complete c s h d {t} {k} e f short =
    let r = begun-right h.flags d e in
    let free = free-at s k f in
    as_many (opened-refiles s k (first_slot c h t)) free.low (free-going (slot_at s k) free.free)
    (⊎_elim (λ (first, size, two). absurd (short first size)) (λ (whole, size, one). all-going (first_slot c h t) (sym one)) r.shape)

module _ {c : Channel} {s : Station} {store d : List ℕ} {h : Packet} where
  begins-most : (1 ≤ length d) × (length d < 8190) → {j : Judged} → Begins c s store h d j
      → (going j.station.slots ≡ going s.slots) × (7 * length j.events ≤ length d + 6)
  begins-most l (wrong-shape e) = (refl, omega arith)
  begins-most l (no_slot e f) = (refl, omega arith)
  begins-most l (no_room e f m) = (refl, omega arith)
  begins-most l (opens_at {t = t} {k = k} e f m) = (
    opens-complete c s h d {t = t} {k = k} e f (λ one size. omega arith),
    omega (arith, opens-few h k, (begun-right h.flags d e).long),
  )

  -- of any length: what two events open is complete
  begins-any : {j : Judged} → Begins c s store h d j → length j.events + going j.station.slots ≤ 2 + going s.slots
  begins-any (wrong-shape e) = omega arith
  begins-any (no_slot e f) = omega arith
  begins-any (no_room e f m) = omega arith
  begins-any (opens_at {t = t} {k = k} e f m) =
      let free = free-at s k f in
      let next = refiled-going (opened-refiles s k (first_slot c h t)) free.low in
      if-cases
      (λ (es : List Event).
      length (at 10 h.application.0 k ∷ es) + going (opened s k (first_slot c h t)).slots ≤ 2 + going s.slots)
      (eqb h.flags 3)
      (λ q. omega (arith, opens-complete c s h d {t = t} {k = k} e f (λ one size. omega (arith, eqb-true h.flags 3 q))))
      (λ q. omega (arith, rw (free-going (slot_at s k) free.free) at next, at_most_one (incomplete (first_slot c h t))))

-- one packet: seven octets for an event, and five of them for each file that goes on no more
module _ {p : List ℕ} (w : Whole p) (short : length p ≤ 884) where
  short-data : (packet_of p).application.0 ≤ 2015 → ((1 ≤ length (data_of p)) × (length (data_of p) < 8190)) × (length p ≡ length (data_of p) + 8)
  short-data l =
      let long = whole-checked w l in
      let size = data-length p (omega arith) in
      ((omega arith, omega arith), omega arith)

  judges-most : {c : Channel} {s : Station} {store : List ℕ} {j : Judged} → Judges c s store p j
      → 7 * length j.events + 5 * going j.station.slots ≤ length p + 5 * going s.slots
  judges-most (fill l) = omega arith
  judges-most (other l n) = omega (arith, whole-smallest w)
  judges-most (damaged l b) = omega (arith, whole-smallest w)
  judges-most (begins-new u st f b) =
      let (few, size) = short-data u.file in
      let (same, most) = begins-most few b in
      omega arith
  judges-most {c} {s} (begins-over u st {k} f b) =
      let (few, size) = short-data u.file in
      let (same, most) = begins-most few b in
      let file = file-at s c (packet_of p).application k f in
      let less = one_less (let_go-refiles s k) file.low file.incomplete none_going in
      omega (arith, whole-checked w u.file)
  judges-most (stray u l f) = omega (arith, whole-smallest w)
  judges-most {c} {s} (goes_onward u l {k} f g) =
      let (few, size) = short-data u.file in
      let file = file-at s c (packet_of p).application k f in
      let follows = goes-following (slot_at s k) (packet_of p) (data_of p) l g in
      let last : incomplete (next_slot (slot_at s k) (packet_of p)) ≡ false =
      ⊎_elim (λ (middle, long, more). absurd (omega arith)) (λ (two, last, rest). all-going (next_slot (slot_at s k) (packet_of p)) last) follows.shape in
      let less = one_less (next-refiles s k (next_slot (slot_at s k) (packet_of p))) file.low file.incomplete last in
      omega (arith, whole-smallest w)
  judges-most {c} {s} (breaks-off u l {k} f g) =
      let file = file-at s c (packet_of p).application k f in
      let less = one_less (let_go-refiles s k) file.low file.incomplete none_going in
      omega (arith, whole-smallest w)

pub few-going : {s : Station} → Sized s → going s.slots ≤ 32
few-going {s} z = omega (arith, going-few s.slots, z.slots)

-- a packet of any length
judges-any : {c : Channel} {s : Station} {store p : List ℕ} {j : Judged} → Sized s → Sized j.station → Judges c s store p j
    → length j.events + going j.station.slots ≤ 34
judges-any z y (fill l) = omega (arith, few-going z)
judges-any z y (other l n) = omega (arith, few-going z)
judges-any z y (damaged l b) = omega (arith, few-going z)
judges-any z y (begins-new u st f b) = omega (arith, begins-any b, few-going z)
judges-any {c} {s} {p = p} z y (begins-over u st {k} f b) =
    let file = file-at s c (packet_of p).application k f in
    omega (arith, begins-any b, one_less (let_go-refiles s k) file.low file.incomplete none_going, few-going z)
judges-any z y (stray u l f) = omega (arith, few-going z)
judges-any z y (goes_onward u l f g) = omega (arith, few-going y)
judges-any z y (breaks-off u l f g) = omega (arith, few-going y)

module _ (c : Channel) (s : Station) (store p : List ℕ) where
  -- THE law: what lies in one zone
  pub most : Whole p → length p ≤ 884
      → 7 * length (judged c s store p).events + 5 * going (judged c s store p).station.slots ≤ length p + 5 * going s.slots
  most w short = judges-most w short (judges-as c s store p)

  pub most-carried : Sized s → length (judged c s store p).events + going (judged c s store p).station.slots ≤ 34
  most-carried z = judges-any z (stays-sized (judged-stays c s store p) z) (judges-as c s store p)
