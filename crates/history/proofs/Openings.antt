-- The rules 4 to 6 over every accepted frame, with events 1, 2 and 3 exactly when they say. Assumes nothing.
use mathlib.Core.Path.{◌≡◌, refl, sym, ap, ap₂, subst, ◌∙◌}
use mathlib.Core.Bool.{Bool, true, false}
use mathlib.Core.Logic.{◌⊎◌, inl, inr, ⊎_elim}
use mathlib.Core.List.Memᴰ
use mathlib.Core.List.{List, [], ◌∷◌, ◌++◌, append-nil, map}
use Prim.Native.Nat.{ℕ, ◌-◌, ◌*◌, ◌≤◌, ◌<◌}
use native.Mathlib.Omega.{arith}
use borrow.Author.Tests.{eq-eqb}
use lib.ListN.{length, take, drop}
use lib.Seq.{get_or-set_same}
use Rattle.octets.specs.Number.{part}
use Rattle.octets.proofs.Decide.{tells, told-true}
use Rattle.octets.proofs.Lists.{in_either, if-true}
use Rattle.frame.specs.declared.Channel.{Channel}
use Rattle.frame.specs.declared.Counter.{Counter}
use Rattle.frame.specs.Header.{derandomised, pointer_meaning}
use Rattle.frame.proofs.Answers.{good-header, good-size, pointer-good}
use Rattle.frame.proofs.Sizes.{length-zone, length-derandomised}
use Rattle.packet.specs.Header.{size_of}
use Rattle.state.specs.declared.Desk.{Desk}
use Rattle.state.specs.declared.Station.{Station}
use Rattle.state.specs.Slots.{desk_at, empty_desk}
use Rattle.events.specs.Event.{Event, bare, Among}
use Rattle.judge.specs.Judge.{Judged, judged}
use Rattle.judge.proofs.Exact.{Given, given-exactly}
use Rattle.judge.proofs.Exact.Given.{wrong-check, no-file, abandoned, wrong_start, all_held, too_large, opened, accepted, completed, whole, reserved}
use Rattle.zone.specs.Zone.{Split, split, Reading, agrees, reading, Unfinished}
use Rattle.zone.specs.Walk.{judged_all, bad_events, held_at, reading_of, with_desk, desk_after, walked}
use Rattle.zone.proofs.Split.{unfinished-few, split-left}
use Rattle.zone.proofs.Readings.{at_pointer, from_place, agrees-exactly, gap-exactly, reading-none, reading-bad, reading-on, reading-dropped, reading-gap, reading-seamless}
use Rattle.zone.proofs.Walks.{all-sized, held-now, held-length, desk-unfinished}
use Rattle.station.specs.Frame.{FrameOutcome, channel_at}
use Rattle.history.specs.Run as runs
use Rattle.history.specs.Run.{World, Call, run, Start, fresh, SoundWorld}
use Rattle.history.specs.Run.Call.{frame}
use Rattle.history.specs.Things.{split_in, did_all, things, said}
use Rattle.history.specs.Things.Thing.{packet, left}
use Rattle.history.specs.Openings.{counter_in, pointer_in, zone_in, OnDesk, on_desk, leaving, Follows, Carried, Dropped, Opens, Closes, packets_under, OverFrame, EveryFrame}
use Rattle.history.specs.Openings.Dropped.{by-gap, none-held, by-header, by-pointer}
use Rattle.history.specs.Openings.Opens.{carries-on, begins-anew}
use Rattle.history.proofs.Framing.{Taken}
use Rattle.history.proofs.Sound.{taken-low, run_sound, fresh-sound}
use Rattle.history.proofs.Moments.{did-frame, things-taken, frame-taken}
use Rattle.history.proofs.Turns.{false-unless}
use Rattle.history.proofs.Blocks.{said-taken}
use Rattle.history.proofs.Sorted.{desk-sorted}
use Rattle.history.proofs.Once.{opens-once, either, closed, closes-split}

-- a packet gives none of the events 1, 2 and 3
given-higher : {c : Channel} {s : Station} {p : List ℕ} {n k : ℕ} → Given c s p n k → 4 ≤ n
given-higher (wrong-check a b) = omega arith
given-higher (no-file a b c) = omega arith
given-higher (abandoned a) = omega arith
given-higher (wrong_start a b c) = omega arith
given-higher (all_held a b) = omega arith
given-higher (too_large a b c) = omega arith
given-higher (opened a b c) = omega arith
given-higher (accepted a b) = omega arith
given-higher (completed a b) = omega arith
given-higher (whole a b c d) = omega arith
given-higher (reserved a b) = omega arith

all-higher : (c : Channel) (s : Station) (store : List ℕ) (ps : List (List ℕ)) (e : Event) → Among e (judged_all c s store ps).events → 4 ≤ e.kind
unfolding judged_all
all-higher c s store [] e m = absurd (Memᴰ.not-nil m)
all-higher c s store (p ∷ ps) e m =
    let j = judged c s store p in
    ⊎_elim (λ n. given-higher ((given-exactly c s store p e).0 n).reason) (all-higher c j.station j.store ps e)
    (in_either j.events (judged_all c j.station j.store ps).events m)

-- the packets of a frame of the channel
pub under_same : (c d : Channel) (ps : List (List ℕ)) (i : ℕ) (k : Desk) → d.0 ≡ c.0 → packets_under c (map (packet d) ps ++ (left i k ∷ [])) ≡ ps
unfolding packets_under
under_same c d [] i k e = refl
under_same c d (p ∷ ps) i k e =
    ap₂ ◌++◌ (if-true (p ∷ []) [] (eq-eqb d.0 c.0 e)) (under_same c d ps i k e)

-- something is held only if a frame was seen
seen_if : (d : Desk) → (d.seen ≡ false → (d.counter.0 ≡ 0) × (d.held ≡ 0)) → 0 < d.held → d.seen ≡ true
seen_if d u l = by d.seen refl
  where
    by : (b : Bool) → d.seen ≡ b → d.seen ≡ true
    by true e = e
    by false e = absurd (omega (arith, (u e).1))

module _ {w : World} (h : SoundWorld w) {f list : List ℕ} (t : Taken w f list) where
  abbrev desk : OnDesk
  desk = on_desk w t.frame.desk

  abbrev its : Reading
  its = reading_of w.station w.desks (zone_in f) t.frame

  -- what the frame says is what the station goes by
  counted : t.frame.counter.0 ≡ counter_in f
  counted =
      let s = w.station in
      ap (λ (x : Counter). x.0) (good-header s.spacecraft (take s.channels s.watched) f t.frame t.good).counter

  pointing : t.frame.pointer ≡ pointer_meaning (pointer_in f)
  pointing =
      let s = w.station in
      (good-header s.spacecraft (take s.channels s.watched) f t.frame t.good).pointer

  zone-long : length (zone_in f) ≡ 884
  zone-long =
      let s = w.station in
      length-zone (derandomised f) (length-derandomised f (good-size s.spacecraft (take s.channels s.watched) f t.frame t.good))

  at_place : (es : List Event) → at_pointer es (zone_in f) t.frame.pointer ≡ record { events = es; octets = drop (pointer_in f) (zone_in f) }
  at_place es =
      let s = w.station in
      ap (at_pointer es (zone_in f)) pointing
      ∙ ap (λ (xs : List ℕ). record { events = es; octets = xs })
      (from_place (pointer_in f) (zone_in f) zone-long
      (pointer-good s.spacecraft (take s.channels s.watched) f t.frame t.good))

  -- no frame is missing
  onto-held : (desk.seen ≡ true → Follows desk f) → its ≡ reading desk.held (zone_in f) t.frame.pointer
  onto-held n =
      reading-seamless w.station w.desks (zone_in f) t.frame
      (false-unless _
      (λ e.
      let g = told-true (gap-exactly (desk_at w.station t.frame.desk) t.frame.counter) e in
      g.1 (counted ∙ n g.0)))

  compared : (r n : ℕ) → n ≡ r → agrees n t.frame.pointer ≡ agrees r (pointer_meaning (pointer_in f))
  compared r n e = ap₂ agrees e pointing

  -- the station reads by the case that holds
  carried-reads : Carried desk f → its ≡ record { events = []; octets = desk.held ++ zone_in f }
  carried-reads c =
      let l = c.lacks in
      onto-held (λ s. l.follows)
      ∙ reading-on desk.held (zone_in f) t.frame.pointer l.some l.good
      (compared c.lacked (size_of l.header - length desk.held) (omega (arith, l.size))
      ∙ tells (agrees-exactly c.lacked (pointer_in f)) c.pointer)

  dropped-reads : {es : List Event} → Dropped desk f es → its ≡ record { events = es; octets = drop (pointer_in f) (zone_in f) }
  dropped-reads (by-gap s n) =
      reading-gap w.station w.desks (zone_in f) t.frame
      (tells (gap-exactly (desk_at w.station t.frame.desk) t.frame.counter) (s, λ e. n (sym counted ∙ e)))
      ∙ at_place (bare 1 ∷ [])
  dropped-reads (none-held n e) =
      onto-held n ∙ ap (λ (xs : List ℕ). reading xs (zone_in f) t.frame.pointer) e ∙ reading-none (zone_in f) t.frame.pointer ∙ at_place []
  dropped-reads (by-header s n e) =
      onto-held (λ q. n) ∙ reading-bad desk.held (zone_in f) t.frame.pointer s e ∙ at_place (bare 3 ∷ [])
  dropped-reads (by-pointer r l n) =
      onto-held (λ q. l.follows)
      ∙ reading-dropped desk.held (zone_in f) t.frame.pointer l.some l.good
      (compared r (size_of l.header - length desk.held) (omega (arith, l.size))
      ∙ false-unless _ (λ e. n (told-true (agrees-exactly r (pointer_in f)) e)))
      ∙ at_place (bare 2 ∷ [])

  pub frame-opens : Opens (on_desk w t.frame.desk) f (reading_of w.station w.desks (zone_in f) t.frame).events
      (reading_of w.station w.desks (zone_in f) t.frame).octets
  frame-opens = by (either desk f unfinished zone-long seen)
    where
      unfinished : Unfinished desk.held
      unfinished = desk-unfinished h.sound w.desks h.desked t.frame.desk (taken-low h t) h.desks

      seen : 0 < length desk.held → desk.seen ≡ true
      seen l =
          seen_if (desk_at w.station t.frame.desk) (h.sound.desks t.frame.desk (taken-low h t)).unseen
          (omega (arith, held-length h.sound w.desks h.desked t.frame.desk (taken-low h t)))

      by : Carried desk f ⊎ ((es : List Event) × Dropped desk f es) → Opens desk f its.events its.octets
      by (inl c) = subst (λ (r : Reading). Opens desk f r.events r.octets) (sym (carried-reads c)) (carries-on c)
      by (inr (es, c)) = subst (λ (r : Reading). Opens desk f r.events r.octets) (sym (dropped-reads c)) (begins-anew c)

  -- the desk of a frame after it
  pub desk-after : on_desk (runs.after w (frame f list)) t.frame.desk ≡ leaving (split_in w f t.frame).left (counter_in f)
  unfolding runs.after walked reading_of
  desk-after =
      let s = w.station in
      let a = t.frame in
      let i = a.desk in
      let low = taken-low h t in
      let sp = split_in w f a in
      let few : length sp.left ≤ 8198 = omega (arith, unfinished-few (split-left (reading_of s w.desks (zone_in f) a).octets)) in
      let j = judged_all (channel_at s i) s w.store sp.packets in
      let now : desk_at (runs.after w (frame f list)).station i ≡ desk_after a (length sp.left) =
      ap (λ (r : FrameOutcome). desk_at r.station i) t.gives
      ∙ get_or-set_same j.station.desks i (desk_after a (length sp.left)) empty_desk
      (omega (arith, (all-sized (channel_at s i) s w.store sp.packets h.sized).desks, h.sound.set_up.few)) in
      let octets : held_at (runs.after w (frame f list)).station (runs.after w (frame f list)).desks i ≡ sp.left =
      ap₂ (λ (m : ℕ) (ds : List ℕ). part (8198 * i) m ds) (ap (λ (x : Desk). x.held) now) (ap (λ (r : FrameOutcome). r.desks) t.gives)
      ∙ held-now w.desks i sp.left few (omega (arith, h.desked)) in
      let last : (desk_at (runs.after w (frame f list)).station i).counter.0 ≡ counter_in f = ap (λ (x : Desk). x.counter.0) now ∙ counted in
      λ k. record { held = octets k; seen = (now k).seen; last = last k }

  over-frame : OverFrame w f list t.frame.desk
  unfolding walked
  over-frame =
      let s = w.station in
      let a = t.frame in
      let c = channel_at s a.desk in
      let r = reading_of s w.desks (zone_in f) a in
      let sp = split_in w f a in
      let d = desk_after a (length sp.left) in
      let ps : packets_under c (things w (frame f list)) ≡ sp.packets =
      ap (packets_under c) (things-taken w t) ∙ under_same c c sp.packets a.desk d refl in
      let did : (did_all s w.store (things w (frame f list))).events ≡ (judged_all c s w.store sp.packets).events =
      ap (λ (j : Judged). j.events) (ap (did_all s w.store) (things-taken w t) ∙ did-frame c s w.store sp.packets a.desk d)
      ∙ append-nil (judged_all c s w.store sp.packets).events in
      record {
        opening = r.events;
        octets = r.octets;
        held = sp.left;
        closing = bad_events sp.bad;
        opens = frame-opens;
        closes = rw ps (closed r.octets);
        leaves = desk-after;
        told = said-taken w t ∙ ap (λ (es : List Event). r.events ++ es ++ bad_events sp.bad) (sym did);
        higher = rw did (all-higher c s w.store sp.packets);
      }

-- whoever can name the case knows all that comes of a frame
module _ {w : World} (h : SoundWorld w) {f list : List ℕ} (t : Taken w f list) {es zs : List Event} {xs held : List ℕ} (ps : List (List ℕ))
    (o : Opens (on_desk w t.frame.desk) f es xs) (c : Closes xs ps held zs) where
  abbrev its-channel : Channel
  its-channel = channel_at w.station t.frame.desk

  read-so : ((its h t).events ≡ es) × ((its h t).octets ≡ xs)
  read-so = opens-once (frame-opens h t) o

  cut-so : ((split_in w f t.frame).packets ≡ ps) × ((split_in w f t.frame).left ≡ held) × (bad_events (split_in w f t.frame).bad ≡ zs)
  cut-so =
      let e = ap split read-so.1 in
      let r = closes-split xs c in (
        ap (λ (sp : Split). sp.packets) e ∙ r.0,
        ap (λ (sp : Split). sp.left) e ∙ r.1,
        ap (λ (sp : Split). bad_events sp.bad) e ∙ r.2,
      )

  pub desk-then : on_desk (runs.after w (frame f list)) t.frame.desk ≡ leaving held (counter_in f)
  desk-then = desk-after h t ∙ ap (λ (left : List ℕ). leaving left (counter_in f)) cut-so.1

  pub station-then : (runs.after w (frame f list)).station
      ≡ with_desk (judged_all (channel_at w.station t.frame.desk) w.station w.store ps).station t.frame.desk
      (desk_after t.frame (length held))
  unfolding runs.after walked
  station-then =
      let a = t.frame in
      let then : List (List ℕ) → List ℕ → Station =
      λ qs left. with_desk (judged_all its-channel w.station w.store qs).station a.desk (desk_after a (length left)) in
      ap (λ (r : FrameOutcome). r.station) t.gives ∙ ap₂ then cut-so.0 cut-so.1

  pub said-then : said w (frame f list) ≡ es ++ (judged_all (channel_at w.station t.frame.desk) w.station w.store ps).events ++ zs
  unfolding walked
  said-then =
      let between : List (List ℕ) → List Event = λ qs. (judged_all its-channel w.station w.store qs).events in
      said-taken w t ∙ (λ i. read-so.0 i ++ between (cut-so.0 i) ++ cut-so.2 i)

pub every-frame : (x : Start) (cs : List Call) → EveryFrame x cs
every-frame x cs f list e =
    let h = run_sound (fresh-sound x) cs in
    let t = frame-taken (run (fresh x) cs) f list e in
    (t.frame.desk, taken-low h t, desk-sorted h t, over-frame h t)
