-- Which event exactly when: the reasons of judge's law (`given-exactly`), at every moment of a run, in the words of the paper. Assumes nothing.
use Rattle.std.specs.Prelude.{if◌then◌else◌, Option, Some, None}
use mathlib.Core.Path.{◌≡◌, refl, sym, ap, subst, ◌∙◌}
use mathlib.Core.Bool.{Bool, true, false, true≢false}
use mathlib.Core.Logic.{◌↔◌, inl, inr, ⊎_elim}
use mathlib.Core.List.Memᴰ
use mathlib.Core.List.{List, [], ◌∷◌}
use Prim.Native.Nat.{ℕ, ◌≤◌, ◌<◌}
use native.Mathlib.Decide.{ℕ_discrete, dec_lt}
use native.Mathlib.Omega.{arith}
use borrow.Author.Tests.{ne_eqb, eqb-false, not-true}
use lib.Dec.{eqb}
use Rattle.octets.proofs.Decide.{told-true, told-false, tells, decides_not}
use Rattle.crc.specs.Crc.{crc_of}
use Rattle.frame.specs.declared.Channel.{Channel}
use Rattle.packet.specs.declared.Packet.{Packet}
use Rattle.packet.specs.Header.{packet_of}
use Rattle.packet.proofs.Looks.{look-good}
use Rattle.transport.specs.declared.Transport.{Transport}
use Rattle.transport.specs.Length.{transport_of, need}
use Rattle.transport.specs.Shape.{begun_of}
use Rattle.transport.proofs.Length.{length-plainly, size-sum, need-covers}
use Rattle.state.specs.declared.Station.{Station}
use Rattle.state.specs.Slots.{slot_at, held}
use Rattle.state.specs.Blocks.{room}
use Rattle.room.specs.Find.{free_slot, file_of}
use Rattle.room.specs.Move.{let_go}
use Rattle.room.proofs.Find.{free-at, free-nowhere, file-at, file-only, same-pair, pair_same}
use Rattle.room.proofs.Keeps.{refiled-slot, refiled-slots, let_go-refiles}
use Rattle.events.specs.Event.{Event, of, at, Among}
use Rattle.judge.specs.Judge.{Judged, data_of, check_of, goes_on, next_kind}
use Rattle.judge.specs.Packets.{Undamaged, Starting, Starts}
use Rattle.judge.specs.Contract.{Whole}
use Rattle.judge.proofs.Parts.{RightStart, begun-right, right-begun, starting, following-exactly, goes-following, Begins, Judges, judges-as}
use Rattle.judge.proofs.Parts.Begins.{wrong-shape, no_slot as without-slot, no_room as without-room, opens_at}
use Rattle.judge.proofs.Parts.Judges.{fill, other, damaged, begins-new, begins-over, stray, goes_onward, breaks-off}
use Rattle.judge.proofs.Steps.{rid, Ending}
use Rattle.judge.proofs.Exact as exact
use Rattle.judge.proofs.Exact.{cleared, Given, given-exactly}
use Rattle.judge.proofs.Exact.Given.{wrong-check as check-wrong, no-file as file-missing, abandoned, wrong_start, all_held, too_large, opened, accepted, completed, whole, reserved as is-reserved}
use Rattle.history.specs.Store.{station_at, store_at, EveryPacket}
use Rattle.history.specs.Events.{OfPair, Later, bits_in, need_in, Shape, WellBegun, FreeFor, LowestFree, Asks, Finds, GoesOn, Why, Rising, EventsExactly}
use Rattle.history.specs.Events.Why.{reserved, wrong-check, another-starts, ill-begun, no_slot, no_room, opens, opens-whole, no-file, next, next-is-last, not-the-next}
use Rattle.history.proofs.Moments.{Settled, moment-settled}
use Rattle.history.proofs.Blocks.{moment-packet}
use Rattle.history.proofs.Room.{unless, never, room-cleared, cleared-sized}
use Rattle.history.proofs.Turns.{none-held}

same-slot : {j k : ℕ} → Some j ≡ Some k → j ≡ k
same-slot e = cc

-- what the packet alone says
module _ (p : List ℕ) where
  asks-starting : Asks p → Starting (packet_of p)
  asks-starting a = ⊎_elim (λ first. inl first.0) (λ whole. inr whole.0) a.begun.shape

  start_is : {t : Transport} → Starts p t → t ≡ transport_of (data_of p)
  start_is g = (begun-right (packet_of p).flags (data_of p) g.right).is

  need-is : {t : Transport} → Starts p t → need t.bits ≡ need_in p
  need-is g = ap (λ (u : Transport). need u.bits) (start_is g)

  starts-asks : {t : Transport} → Starts p t → Asks p
  starts-asks {t} g =
      let r : RightStart (packet_of p).flags (data_of p) (transport_of (data_of p)) =
      subst (RightStart (packet_of p).flags (data_of p)) (start_is g) (begun-right (packet_of p).flags (data_of p) g.right) in
      let shape : Shape p = ⊎_elim inl (λ (three, size, one). inr (three, size ∙ size-sum (bits_in p), one)) r.shape in
      let some : bits_in p ≡ 0 → ⊥ = told-true (length-plainly (bits_in p)) r.good in
      record { undamaged = g.undamaged; begun = record { ten = r.long; some = omega (arith, some); shape = shape } }

  well-right : WellBegun p → begun_of (packet_of p).flags (data_of p) ≡ Some (transport_of (data_of p))
  well-right w =
      right-begun (packet_of p).flags (data_of p)
      (record {
        long = w.ten;
        is = refl;
        good = tells (length-plainly (bits_in p)) (omega (arith, w.some));
        shape = ⊎_elim inl (λ (three, size, one). inr (three, size ∙ sym (size-sum (bits_in p)), one)) w.shape;
        few = ⊎_elim (λ (_, size, _). omega arith) (λ (_, size, one). omega (arith, need-covers (bits_in p), size-sum (bits_in p))) w.shape;
        some = ⊎_elim (λ (_, _, two). omega arith) (λ (_, _, one). omega arith) w.shape;
      })

  asks-starts : Asks p → Starts p (transport_of (data_of p))
  asks-starts a = record { undamaged = a.undamaged; starting = asks-starting a; right = well-right a.begun }

  ill : begun_of (packet_of p).flags (data_of p) ≡ None → WellBegun p → ⊥
  ill e w =
      let right : begun_of (packet_of p).flags (data_of p) ≡ Some (transport_of (data_of p)) = well-right w in
      let z : ◌≡◌ {A = ℕ} 0 1 = cc in
      omega arith

  wrong : Undamaged p → Starting (packet_of p) → (WellBegun p → ⊥) → begun_of (packet_of p).flags (data_of p) ≡ None
  wrong u st n = by (begun_of (packet_of p).flags (data_of p)) refl
    where
      by : (b : Option Transport) → begun_of (packet_of p).flags (data_of p) ≡ b → begun_of (packet_of p).flags (data_of p) ≡ None
      by None e = e
      by (Some t) e = absurd (n (starts-asks {t = t} (record { undamaged = u; starting = st; right = e })).begun)

  module _ (w : Whole p) where
    is_later : (Starting (packet_of p) → ⊥) → Later (packet_of p)
    is_later l =
        let small = (look-good p (packet_of p) w.good).flags in
        elim (ℕ_discrete (packet_of p).flags 0) [
          | yes e ↦ inl e
          | no f ↦ inr (elim (ℕ_discrete (packet_of p).flags 2) [
            | yes e ↦ e
            | no g ↦ absurd (⊎_elim (λ e. l (inl e)) (λ e. l (inr e)) (one_of small f g))
          ])
        ]
      where
        one_of : (packet_of p).flags < 4 → ((packet_of p).flags ≡ 0 → ⊥) → ((packet_of p).flags ≡ 2 → ⊥) → Starting (packet_of p)
        one_of s f g =
            elim (ℕ_discrete (packet_of p).flags 1) [
              | yes e ↦ inl e
              | no h ↦ inr (omega arith)
            ]

  later-not : Later (packet_of p) → Starting (packet_of p) → ⊥
  later-not l st = ⊎_elim (λ a. ⊎_elim (λ b. omega arith) (λ b. omega arith) st) (λ a. ⊎_elim (λ b. omega arith) (λ b. omega arith) st) l

-- what the state says of the pair and of the slots
module _ {s : Station} {store : List ℕ} (h : Settled s store) (c : Channel) (p : List ℕ) where
  pair_found : {k : ℕ} → OfPair s c p k → file_of s c (packet_of p).application ≡ Some k
  pair_found {k} o =
      file-only s c (packet_of p).application h.sized h.sound k o.low o.incomplete
      (pair_same c (packet_of p).application (slot_at s k) o.channel o.application)

  found-pair : {k : ℕ} → file_of s c (packet_of p).application ≡ Some k → OfPair s c p k
  found-pair {k} e =
      let f = file-at s c (packet_of p).application k e in
      let (channel, application) = same-pair c (packet_of p).application (slot_at s k) f.pair in
      record { low = omega (arith, f.low, h.sized.slots); incomplete = f.incomplete; channel = channel; application = application }

  found_none : file_of s c (packet_of p).application ≡ None → (k : ℕ) → OfPair s c p k → ⊥
  found_none e k o = never (sym (pair_found o) ∙ e)

  none_found : ((k : ℕ) → OfPair s c p k → ⊥) → file_of s c (packet_of p).application ≡ None
  none_found n = unless (file_of s c (packet_of p).application) refl (λ k e. n k (found-pair e))

  -- a slot of the state that is asked is not held exactly if it is free for the packet
  free-for : (j : ℕ) → j < 32 → (held (slot_at (cleared c s p) j) ≡ false) ↔ FreeFor s c p j
  free-for j low = by (file_of s c (packet_of p).application) refl
    where
      by : (f : Option ℕ) → file_of s c (packet_of p).application ≡ f → (held (slot_at (rid s f) j) ≡ false) ↔ FreeFor s c p j
      by None e = (inl, ⊎_elim (λ q. q) (λ o. absurd (found_none e j o)))
      by (Some k) e =
          let r = let_go-refiles s k in
          elim (ℕ_discrete j k) [
            | yes q ↦ (
              λ f. inr (subst (OfPair s c p) (sym q) (found-pair e)),
              λ f. ap held (ap (slot_at (let_go s k)) q ∙ refiled-slot r h.sized (found-pair e).low) ∙ none-held,
            )
            | no n ↦ (
              λ f. inl (sym (ap held (refiled-slots r j n)) ∙ f),
              ⊎_elim (λ f. ap held (refiled-slots r j n) ∙ f) (λ o. absurd (n (same-slot (sym (pair_found o) ∙ e)))),
            )
          ]

  lowest : {k : ℕ} → free_slot (cleared c s p) ≡ Some k → LowestFree s c p k
  lowest {k} e =
      let f = free-at (cleared c s p) k e in
      let low : k < 32 = omega (arith, f.low, (cleared-sized h.sized h.sound c p).slots) in
      record {
        low = low;
        free = (free-for k low).0 f.free;
        before = λ j l q. true≢false (sym (f.before j l) ∙ (free-for j (omega arith)).1 q);
      }

  slots : (j : ℕ) → free_slot (cleared c s p) ≡ None → j < 32 → FreeFor s c p j → ⊥
  slots j e low q =
      true≢false
      (sym (free-nowhere (cleared c s p) e j (omega (arith, (cleared-sized h.sized h.sound c p).slots))) ∙ (free-for j low).1 q)

  lowest-at : {k : ℕ} → LowestFree s c p k → free_slot (cleared c s p) ≡ Some k
  lowest-at {k} l = by (free_slot (cleared c s p)) refl
    where
      by : (f : Option ℕ) → free_slot (cleared c s p) ≡ f → free_slot (cleared c s p) ≡ Some k
      by None e = absurd (slots k e l.low l.free)
      by (Some j) e =
          let m = lowest e in
          elim (dec_lt j k) [
            | yes a ↦ absurd (l.before j a m.free)
            | no a ↦ elim (dec_lt k j) [
              | yes b ↦ absurd (m.before k b l.free)
              | no b ↦ e ∙ ap Some (omega arith)
            ]
          ]

  no-lowest : ((k : ℕ) → k < 32 → FreeFor s c p k → ⊥) → free_slot (cleared c s p) ≡ None
  no-lowest n =
      unless (free_slot (cleared c s p)) refl
      (λ k e.
      let l = lowest e in
      n k l.low l.free)

  -- the reasons of judge's law in the words of the table
  module _ (w : Whole p) where
    finds : {t : Transport} {k : ℕ} → Starts p t → free_slot (cleared c s p) ≡ Some k → need t.bits ≤ room (cleared c s p) → Finds s c p k
    finds g f l =
        record {
          asks = starts-asks p g;
          slot = lowest f;
          room = omega (arith, need-is p g, room-cleared h.sized h.sound c p);
        }

    goes : {k : ℕ} → exact.GoesOn c s p k → GoesOn s c p k
    goes {k} g =
        record {
          undamaged = g.undamaged;
          file = found-pair g.file;
          follows = goes-following (slot_at s k) (packet_of p) (data_of p) g.later g.goes;
        }

    ending : {k : ℕ} → Ending c s p k → Dec (Starting (packet_of p)) → Why s c p 6 k
    ending g (yes st) = another-starts g.undamaged st (found-pair g.file)
    ending {k} g (no l) =
        not-the-next g.undamaged (is_later p w l) (found-pair g.file)
        (⊎_elim (λ st. absurd (l st)) (told-false (following-exactly (slot_at s k) (packet_of p) (data_of p) l)) g.why)

    why : {n k : ℕ} → Given c s p n k → Why s c p n k
    why (check-wrong l b) = wrong-check l (eqb-false (crc_of (data_of p)) (check_of p) b)
    why (file-missing u l f) = no-file u (is_later p w l) (found_none f)
    why (abandoned g) = ending g (starting (packet_of p))
    why (wrong_start u st b) = ill-begun u st (ill p b)
    why (all_held g f) = no_slot (starts-asks p g) (λ k. slots k f)
    why (too_large g f l) =
        no_room (starts-asks p g) (lowest f) (omega (arith, need-is p g, room-cleared h.sized h.sound c p))
    why (opened g f l) = opens (finds g f l)
    why (accepted g n) = next (goes g) (⊎_elim (λ e. e) (λ e. absurd (n e)) (is_later p w g.later))
    why (completed g n) = next-is-last (goes g) n
    why (whole g f l n) = opens-whole (finds g f l) n
    why (is-reserved l n) = reserved (omega arith) (omega arith)

  -- and back
  found-room : {k : ℕ} → Finds s c p k → need_in p ≤ room (cleared c s p)
  found-room f = omega (arith, room-cleared h.sized h.sound c p, f.room)

  went : {k : ℕ} → GoesOn s c p k → exact.GoesOn c s p k
  went {k} g =
      let l : Starting (packet_of p) → ⊥ = ⊎_elim (λ (e, _, _). later-not p (inl e)) (λ (e, _, _). later-not p (inr e)) g.follows.shape in
      record {
        undamaged = g.undamaged;
        later = l;
        file = pair_found g.file;
        goes = tells (following-exactly (slot_at s k) (packet_of p) (data_of p) l) g.follows;
      }

  because : {n k : ℕ} → Why s c p n k → Given c s p n k
  because (reserved l n) = is-reserved (omega arith) (omega arith)
  because (wrong-check l f) = check-wrong l (ne_eqb (crc_of (data_of p)) (check_of p) f)
  because (another-starts u st o) = abandoned (record { undamaged = u; file = pair_found o; why = inl st })
  because (ill-begun u st n) = wrong_start u st (wrong p u st n)
  because (no_slot a n) = all_held (asks-starts p a) (no-lowest n)
  because (no_room {k} a l r) = too_large {k = k} (asks-starts p a) (lowest-at l) (omega (arith, room-cleared h.sized h.sound c p))
  because (opens f) = opened (asks-starts p f.asks) (lowest-at f.slot) (found-room f)
  because (opens-whole f e) = whole (asks-starts p f.asks) (lowest-at f.slot) (found-room f) e
  because (no-file u l n) = file-missing u (later-not p l) (none_found n)
  because (next g e) = accepted (went g) (λ q. omega arith)
  because (next-is-last g e) = completed (went g) e
  because (not-the-next {k} u l o n) =
      abandoned
      (record {
        undamaged = u;
        file = pair_found o;
        why =
            inr
            (not-true (goes_on (slot_at s k) (packet_of p) (data_of p))
            (tells (decides_not (following-exactly (slot_at s k) (packet_of p) (data_of p) (later-not p l))) n));
      })

-- an event that is the only one of its list has its kind
of-kind : {e f : Event} → Among f (e ∷ []) → f.kind ≡ e.kind
of-kind m = ap (λ (x : Event). x.kind) (Memᴰ.eq_of_singleton m)

-- the events go up
rising-one : (e : Event) → Rising (e ∷ [])
rising-one e = (λ f m. absurd (Memᴰ.not-nil m), tt)

opens-rise : (a k : ℕ) (b : Bool) → Rising (at 10 a k ∷ (if b then at 12 a k ∷ [] else []))
opens-rise a k true =
    (λ f m. omega (arith, of-kind m), rising-one (at 12 a k))
opens-rise a k false = rising-one (at 10 a k)

opens-above : (a k : ℕ) (b : Bool) (f : Event) → Among f (at 10 a k ∷ (if b then at 12 a k ∷ [] else [])) → 6 < f.kind
opens-above a k true f m =
    ⊎_elim (λ e. omega (arith, ap (λ (x : Event). x.kind) e)) (λ n. omega (arith, of-kind n)) (Memᴰ.cases_cons m)
opens-above a k false f m = omega (arith, of-kind m)

begins-rise : {c : Channel} {s : Station} {store d : List ℕ} {h : Packet} {j : Judged} → Begins c s store h d j
    → Rising j.events × ((f : Event) → Among f j.events → 6 < f.kind)
begins-rise {h = h} (wrong-shape e) = (rising-one (of 7 h.application.0), λ f m. omega (arith, of-kind m))
begins-rise {h = h} (without-slot e f) = (rising-one (of 8 h.application.0), λ f m. omega (arith, of-kind m))
begins-rise {h = h} (without-room e f l) = (rising-one (of 9 h.application.0), λ f m. omega (arith, of-kind m))
begins-rise {h = h} (opens_at {k = k} e f l) =
    (opens-rise h.application.0 k (eqb h.flags 3), opens-above h.application.0 k (eqb h.flags 3))

judges-rise : {c : Channel} {s : Station} {store p : List ℕ} {j : Judged} → Judges c s store p j → Rising j.events
judges-rise (fill l) = tt
judges-rise {p = p} (other l n) = rising-one (of 13 (packet_of p).application.0)
judges-rise {p = p} (damaged l b) = rising-one (of 4 (packet_of p).application.0)
judges-rise (begins-new u st f b) = (begins-rise b).0
judges-rise (begins-over u st f b) = ((begins-rise b).1, (begins-rise b).0)
judges-rise {p = p} (stray u l f) = rising-one (of 5 (packet_of p).application.0)
judges-rise {p = p} (goes_onward u l {k} f g) = rising-one (at (next_kind (packet_of p)) (packet_of p).application.0 k)
judges-rise {p = p} (breaks-off u l {k} f g) = rising-one (at 6 (packet_of p).application.0 k)

-- "Packets", at every moment of a run
pub events-exactly : EveryPacket EventsExactly
events-exactly m =
    let s = station_at m in
    let store = store_at m in
    let c = m.channel in
    let p = m.p in
    let h = moment-settled m in
    record {
      given =
          λ e. (
            λ n.
                let r = (given-exactly c s store p e).0 n in
                (r.application, why h c p (moment-packet m).whole r.reason),
            λ (a, y). (given-exactly c s store p e).1 (record { application = a; reason = because h c p y }),
          );
      rising = judges-rise (judges-as c s store p);
    }
