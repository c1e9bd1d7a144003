-- The store's blocks and the files that hold them, on every world that a run reaches; and how a file leaves its slot. Assumes nothing.
use Rattle.std.specs.Prelude.{Ok}
use mathlib.Core.Path.{◌≡◌, refl, sym, ap, subst, ◌∙◌}
use mathlib.Core.Bool.{Bool, true, false}
use mathlib.Core.Logic.{inl, inr, ⊎_elim}
use mathlib.Core.List.Memᴰ
use mathlib.Core.List.{List, [], ◌∷◌, ◌++◌, map, Memᴰ, append-nil}
use Prim.Native.Nat.{ℕ, ◌<◌}
use native.Mathlib.Decide.{ℕ_discrete}
use native.Mathlib.Omega.{arith}
use borrow.Author.Tests.{eq-eqb}
use lib.ListN.{length, length-append}
use Rattle.octets.specs.Buffer.{put}
use Rattle.octets.proofs.Lists.{if-true, if-false}
use Rattle.octets.proofs.Decide.{exactly}
use Rattle.frame.specs.declared.Channel.{Channel}
use Rattle.frame.specs.Header.{derandomised, zone_of}
use Rattle.state.specs.declared.Desk.{Desk}
use Rattle.state.specs.declared.Station.{Station}
use Rattle.state.specs.Slots.{slot_at, held}
use Rattle.state.specs.Sound.{Sized, Sound}
use Rattle.state.proofs.Places.{stands-taken, stands-once, free-or-stands, places-once-each}
use Rattle.events.specs.Event.{Event, at, Among, flat}
use Rattle.judge.specs.Judge.{Judged, judged}
use Rattle.judge.specs.Contract.{Watched, Whole}
use Rattle.judge.proofs.Exact.{abandoned-exactly}
use Rattle.zone.specs.Zone.{split, Wholes}
use Rattle.zone.proofs.Split.{split-wholes}
use Rattle.zone.specs.Walk.{desk_after, reading_of, judged_all, bad_events, walked}
use Rattle.station.specs.Frame.{FrameOutcome, channel_at}
use Rattle.history.specs.Run.{World, Call, answer, run, fresh, SoundWorld}
use Rattle.history.specs.Run.Call.{frame, read, let-go}
use Rattle.history.specs.Things.{Thing, did, did_all, examined_in, split_in, framed_events, things, said}
use Rattle.history.specs.Things.Thing.{packet, left, gone}
use Rattle.history.specs.Follow.{ends, fate, follow, Fate}
use Rattle.history.specs.Follow.Fate.{Still, Ended}
use Rattle.history.specs.Calls.{Told}
use Rattle.history.specs.Store.{BlocksRight, Moment, world_at, station_at, store_at, EveryPacket, Judgeable, Keeps, Leaves, OverCall, NeverLost, OverPacket, KeptOrEnded, Event6, Logged}
use Rattle.history.specs.Store.OverCall.{still-there, at-its-end}
use Rattle.history.specs.Store.Leaves.{by-event-6, by-letting-go}
use Rattle.history.specs.Store.OverPacket.{kept, ended}
use Rattle.history.specs.Demands.{EveryRun}
use Rattle.history.proofs.Framing.{Taken}
use Rattle.history.proofs.Sound.{run_sound, fresh-sound}
use Rattle.history.proofs.Moments.{Settled, settled, did-append, did-settled, did-frame, call-leaves, call-rightly, frame-taken, things-read, things-let-go, things-refused, things-taken, taken-zero, moment-settled, moment-rightly}
use Rattle.history.proofs.Turns.{ends-exactly}
use Rattle.history.proofs.Follows.{follow-on, follow-over, Fares, fares}

-- "every store block is free or belongs to one held file at one place. A file needing N blocks holds N"
pub station-blocks : {s : Station} → Sized s → Sound s → BlocksRight s
station-blocks z S =
    record {
      each =
          λ b l.
          ⊎_elim (λ e. inl (record { free = e; nowhere = λ k i t. stands-taken t e }))
          (λ (k, i, low, here, t). inr (record { slot = k; place = i; low = low; held = here; stands = t; only = λ k' i' u. stands-once u t }))
          (free-or-stands z S b l);
      files =
          λ k l e.
          record { blocks = (S.files k l e).places; places = places-once-each z S k l e };
    }

pub blocks-right : EveryRun (λ w. BlocksRight w.station)
blocks-right x cs =
    let h = run_sound (fresh-sound x) cs in
    station-blocks h.sized h.sound

-- the events of a frame are in its list
module _ (w : World) {f list : List ℕ} (t : Taken w f list) where
  pub said-taken : said w (frame f list) ≡ framed_events w f (Ok t.frame)
  unfolding said
  said-taken = if-true (framed_events w f (examined_in w f)) [] (eq-eqb (answer w (frame f list)) 0 (taken-zero w t)) ∙ ap (framed_events w f) t.good

  said-told : Told w f list
  said-told =
      record {
        count = ap (λ (r : FrameOutcome). r.events) t.gives ∙ ap length (sym said-taken);
        listed = ap (λ (r : FrameOutcome). r.list) t.gives ∙ ap (λ (es : List Event). put list 0 (flat es)) (sym said-taken);
      }

  -- and those that the things gave are among them
  said-among : {e : Event} → Among e (did_all w.station w.store (things w (frame f list))).events → Among e (said w (frame f list))
  unfolding walked
  said-among {e} m =
      let s = w.station in
      let a = t.frame in
      let r = reading_of s w.desks (zone_of (derandomised f)) a in
      let sp = split_in w f a in
      let d = desk_after a (length sp.left) in
      let j = judged_all (channel_at s a.desk) s w.store sp.packets in
      let q : (did_all s w.store (things w (frame f list))).events ≡ j.events =
      ap (λ (ts : List Thing). (did_all s w.store ts).events) (things-taken w t)
      ∙ ap (λ (i : Judged). i.events) (did-frame (channel_at s a.desk) s w.store sp.packets a.desk d)
      ∙ append-nil j.events in
      subst (Among e) (sym said-taken)
      (Memᴰ.append_left (bad_events sp.bad) (Memᴰ.append_right r.events (subst (Among e) q m)))

pub every-told : (w : World) (f list : List ℕ) → answer w (frame f list) ≡ 0 → Told w f list
every-told w f list e = said-told w (frame-taken w f list e)

-- a frame lets go no file by the user's will
not-gone : (k : ℕ) (c : Channel) (ps : List (List ℕ)) (i : ℕ) (d : Desk) → Memᴰ (gone k) (map (packet c) ps ++ (left i d ∷ [])) → ⊥
not-gone k c [] i d m =
    let e = Memᴰ.eq_of_singleton m in
    let z : ◌≡◌ {A = ℕ} 0 1 = cc in
    omega arith
not-gone k c (p ∷ ps) i d m =
    ⊎_elim
    (λ e.
    let z : ◌≡◌ {A = ℕ} 0 1 = cc in
    omega arith)
    (not-gone k c ps i d) (Memᴰ.cases_cons m)

same-gone : {j k : ℕ} → Memᴰ (gone k) (gone j ∷ []) → k ≡ j
same-gone {j} {k} m =
    let e : gone k ≡ gone j = Memᴰ.eq_of_singleton m in
    cc

module _ {w : World} (h : SoundWorld w) (k : ℕ) where
  -- the file has come to its end: by the call, and how
  left-by-gone : (j : ℕ) → Fares w.station w.store (gone j ∷ []) k Ended → k ≡ j
  unfolding did did_all
  left-by-gone j (inl m) = absurd (Memᴰ.not-nil m)
  left-by-gone j (inr m) = same-gone m

  left-by-none : Fares w.station w.store [] k Ended → ⊥
  unfolding did_all
  left-by-none (inl m) = Memᴰ.not-nil m
  left-by-none (inr m) = Memᴰ.not-nil m

  left-by-frame : (f list : List ℕ) → answer w (frame f list) ≡ 0 → Fares w.station w.store (things w (frame f list)) k Ended
      → Leaves w k (frame f list)
  left-by-frame f list e (inl m) = by-event-6 e (said-among w (frame-taken w f list e) m)
  left-by-frame f list e (inr m) =
      let t = frame-taken w f list e in
      absurd
      (not-gone k (channel_at w.station t.frame.desk) (split_in w f t.frame).packets t.frame.desk _
      (subst (Memᴰ (gone k)) (things-taken w t) m))

  ending : {ts us : List Thing} → ts ≡ us → Fares w.station w.store ts k Ended → Fares w.station w.store us k Ended
  ending e g = subst (λ (vs : List Thing). Fares w.station w.store vs k Ended) e g

  left_by : (c : Call) → answer w c ≡ 0 → Fares w.station w.store (things w c) k Ended → Leaves w k c
  left_by (frame f list) e g = left-by-frame f list e g
  left_by (read j offset buffer) e g = absurd (left-by-none (ending (things-read w j offset buffer) g))
  left_by (let-go j) e g =
      let q = left-by-gone j (ending (things-let-go w j e) g) in
      subst (λ (i : ℕ). Leaves w k (let-go i)) q (by-letting-go (ap (λ (i : ℕ). answer w (let-go i)) q ∙ e))

  over-call : (c : Call) (f : Fate) → follow k (slot_at w.station k) (things w c) ≡ f → Fares w.station w.store (things w c) k f
      → OverCall w k c
  over-call c (Still y) q g =
      let v = (call-leaves w c).station in
      still-there (q ∙ ap Still (sym g.0 ∙ ap (λ (s : Station). slot_at s k) v)) (subst (λ (s : Station). Keeps w.station s k) v g.1)
  over-call c Ended q g =
      elim (ℕ_discrete (answer w c) 0) [
        | yes e ↦ at-its-end q (left_by c e g)
        | no n ↦ absurd (left-by-none (ending (things-refused w c n) g))
      ]

-- "No opened file is ever lost for want of room: it leaves its slot only by event 6, .. or by" letting it go
pub never-lost : EveryRun NeverLost
never-lost x cs k low e c =
    let w = run (fresh x) cs in
    let h = run_sound (fresh-sound x) cs in
    over-call h k c (follow k (slot_at w.station k) (things w c)) refl (fares (things w c) (settled h) (call-rightly h c) k low e)

-- ".. event 6, whose rules never look at room"
pub event-6-exactly : EveryPacket Event6
event-6-exactly m k low =
    let h = moment-settled m in
    let a = abandoned-exactly m.channel (station_at m) (store_at m) m.p k in
    let b = exactly (ends-exactly h.sized h.sound m.channel m.p k low) in
    (λ n. b.1 (a.0 n), λ e. a.1 (b.0 e))

-- over a packet a file is kept, or ended with event 6
module _ {s : Station} {store : List ℕ} (h : Settled s store) (c : Channel) (p : List ℕ) (w : Watched s c) (k : ℕ) (low : k < 32)
    (e : held (slot_at s k) ≡ true) where
  fared : (f : Fate) → fate k (slot_at s k) (packet c p) ≡ f → Fares s store (packet c p ∷ []) k f
  unfolding follow
  fared (Still y) q = subst (Fares s store (packet c p ∷ []) k) (follow-on k (slot_at s k) (packet c p) [] q) (fares (packet c p ∷ []) h (w, tt) k low e)
  fared Ended q = subst (Fares s store (packet c p ∷ []) k) (follow-over k (slot_at s k) (packet c p) [] q) (fares (packet c p ∷ []) h (w, tt) k low e)

  told-six : Fares s store (packet c p ∷ []) k Ended → Among (at 6 (slot_at s k).application.0 k) (judged c s store p).events
  unfolding did did_all
  told-six (inl m) = subst (Among (at 6 (slot_at s k).application.0 k)) (append-nil (judged c s store p).events) m
  told-six (inr m) =
      let q = Memᴰ.eq_of_singleton m in
      let z : ◌≡◌ {A = ℕ} 0 1 = cc in
      absurd (omega arith)

  over-packet : (b : Bool) → ends (slot_at s k) c p ≡ b → OverPacket s store c p k
  unfolding did did_all fate
  over-packet true q = ended q (told-six (fared Ended (if-true Ended _ q)))
  over-packet false q = kept q (fared (Still _) (if-false Ended (Still _) q)).1

pub kept-or-ended : EveryPacket KeptOrEnded
kept-or-ended m k low e =
    over-packet (moment-settled m) m.channel m.p (moment-rightly m).1.0 k low e (ends (slot_at (station_at m) k) m.channel m.p) refl

-- what a packet gives stands in the list of its frame
did-among : (s : Station) (store : List ℕ) (ts us : List Thing) (t : Thing) {e : Event}
    → Among e (did (did_all s store ts).station (did_all s store ts).store t).events → Among e (did_all s store (ts ++ (t ∷ us))).events
unfolding did_all
did-among s store ts us t {e} m =
    subst (Among e) (sym (ap (λ (j : Judged). j.events) (did-append s store ts (t ∷ us))))
    (Memᴰ.append_right (did_all s store ts).events (Memᴰ.append_left _ m))

some-things : (ts us : List Thing) (t : Thing) → [] ≡ ts ++ (t ∷ us) → ⊥
some-things ts us t q = omega (arith, ap length q, length-append ts (t ∷ us))

-- the frame of a moment is taken, for it brings a packet
moment-taken : (m : Moment) → Taken (world_at m) m.sent m.list
moment-taken m =
    let w = world_at m in
    let f = frame m.sent m.list in
    elim (ℕ_discrete (answer w f) 0) [
      | yes e ↦ frame-taken w m.sent m.list e
      | no n ↦ absurd (some-things m.before m.later (packet m.channel m.p) (sym (things-refused w f n) ∙ m.brought))
    ]

pub logged : (m : Moment) → Logged m
unfolding did
logged m e n =
    let w = world_at m in
    said-among w (moment-taken m)
    (subst (λ (ts : List Thing). Among e (did_all w.station w.store ts).events) (sym m.brought)
    (did-among w.station w.store m.before m.later (packet m.channel m.p) n))

-- a packet among the things of a frame is one of those that its octets are cut into
of-wholes : (c c' : Channel) (p : List ℕ) (ps : List (List ℕ)) (i : ℕ) (d : Desk) → Wholes ps
    → Memᴰ (packet c p) (map (packet c') ps ++ (left i d ∷ [])) → Whole p
of-wholes c c' p [] i d w m =
    let e = Memᴰ.eq_of_singleton m in
    let z : ◌≡◌ {A = ℕ} 0 1 = cc in
    absurd (omega arith)
of-wholes c c' p (q ∷ ps) i d w m =
    ⊎_elim
    (λ e.
    let same : q ≡ p = cc in
    subst Whole same w.0)
    (of-wholes c c' p ps i d w.1) (Memᴰ.cases_cons m)

in-middle : {A : Type 0} (xs : List A) (y : A) (ys : List A) → Memᴰ y (xs ++ (y ∷ ys))
in-middle xs y ys = Memᴰ.append_right xs (Memᴰ.head refl)

pub moment-packet : EveryPacket Judgeable
unfolding did
moment-packet m =
    let w = world_at m in
    let t = moment-taken m in
    let xs = (reading_of w.station w.desks (zone_of (derandomised m.sent)) t.frame).octets in
    let q = packet m.channel m.p in
    let here = moment-settled m in
    let watched = (moment-rightly m).1.0 in
    let then = did-settled q here watched in
    record {
      whole =
          of-wholes m.channel (channel_at w.station t.frame.desk) m.p (split xs).packets t.frame.desk _ (split-wholes xs)
          (subst (Memᴰ q) (sym m.brought ∙ things-taken w t) (in-middle m.before q m.later));
      watched = watched;
      before = station-blocks here.sized here.sound;
      after = station-blocks then.sized then.sound;
    }
