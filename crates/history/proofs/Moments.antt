-- A run of calls is a list of things, one after the other, and the state is sound before and after each of them. Assumes nothing.
use Rattle.std.specs.Prelude.{Ok}
use mathlib.Core.Path.{◌≡◌, refl, sym, ap, ap₂, subst, ◌∙◌}
use mathlib.Core.Bool.{true≢false}
use mathlib.Core.List.{List, [], ◌∷◌, ◌++◌, map}
use Prim.Native.Nat.{ℕ, ◌*◌, ◌<◌}
use native.Mathlib.Decide.{ℕ_discrete}
use native.Mathlib.Omega.{arith}
use borrow.Author.Tests.{eq-eqb, ne_eqb}
use lib.ListN.{length}
use Rattle.octets.proofs.Lists.{if-true, if-false}
use Rattle.frame.specs.declared.Channel.{Channel}
use Rattle.frame.specs.Header.{derandomised, zone_of}
use Rattle.state.specs.declared.Desk.{Desk}
use Rattle.state.specs.declared.Station.{Station}
use Rattle.state.specs.Sound.{Sized, Sound, DeskHolds}
use Rattle.room.proofs.Keeps.{refiled-sized, let_go-refiles, let_go-sound}
use Rattle.judge.specs.Judge.{Judged, gives, after, judged}
use Rattle.judge.specs.Contract.{Watched}
use Rattle.judge.proofs.Keeps.{stays-sized, stays-watched, stays-refiled, judged-stays, judged-store, judged-sound}
use Rattle.zone.specs.Walk.{judged_all, desk_after, reading_of, with_desk, walked}
use Rattle.zone.proofs.Split.{unfinished-few, split-left}
use Rattle.zone.proofs.Walks.{after-after, desk-sized, desk-sound}
use Rattle.station.specs.Frame.{FrameOutcome, channel_at}
use Rattle.station.proofs.Calls.{let_go-outcome, let_go-zero}
use Rattle.station.proofs.Sorted.{desk-watched}
use Rattle.history.specs.Run as runs
use Rattle.history.specs.Run.{World, Call, answer, run, SoundWorld}
use Rattle.history.specs.Run.Call.{frame, read, let-go}
use Rattle.history.specs.Things.{Thing, did, did_all, examined_in, split_in, framed_things, things, all_things}
use Rattle.history.specs.Things.Thing.{packet, left, gone}
use Rattle.history.specs.Store.{Moment, world_at, station_at, store_at}
use Rattle.history.proofs.Framing.{Taken, Framing, framing}
use Rattle.history.proofs.Framing.Framing.{refuses, takes}
use Rattle.history.proofs.Refused.{every-answer}
use Rattle.history.proofs.Sound.{taken-low, taken-counter, after-sound, run_sound, fresh-sound}

-- things before things
pub did-append : (s : Station) (store : List ℕ) (ts us : List Thing)
    → did_all s store (ts ++ us)
    ≡ after (did_all s store ts).events (did_all (did_all s store ts).station (did_all s store ts).store us)
unfolding did_all
did-append s store [] us = refl
did-append s store (t ∷ ts) us =
    let j = did s store t in
    let k = did_all j.station j.store ts in
    ap (after j.events) (did-append j.station j.store ts us) ∙ after-after j.events k.events (did_all k.station k.store us)

pub did-packets : (c : Channel) (s : Station) (store : List ℕ) (ps : List (List ℕ)) → did_all s store (map (packet c) ps) ≡ judged_all c s store ps
unfolding did did_all judged_all
did-packets c s store [] = refl
did-packets c s store (p ∷ ps) =
    let j = judged c s store p in
    ap (after j.events) (did-packets c j.station j.store ps)

-- a desk set in order behind packets
pub did-frame : (c : Channel) (s : Station) (store : List ℕ) (ps : List (List ℕ)) (i : ℕ) (d : Desk)
    → did_all s store (map (packet c) ps ++ (left i d ∷ []))
    ≡ after (judged_all c s store ps).events (gives (with_desk (judged_all c s store ps).station i d) (judged_all c s store ps).store [])
unfolding did did_all
did-frame c s store ps i d =
    did-append s store (map (packet c) ps) (left i d ∷ [])
    ∙ ap (λ (j : Judged). after j.events (gives (with_desk j.station i d) j.store [])) (did-packets c s store ps)

-- a state with its store
pub record Settled (s : Station) (store : List ℕ) : Type 0 where
  pub sound : Sound s
  pub sized : Sized s
  pub stored : length store ≡ 8190 * s.blocks

pub settled : {w : World} → SoundWorld w → Settled w.station w.store
settled h = record { sized = h.sized; sound = h.sound; stored = h.stored }

-- what can happen: packets of a watched channel, a desk that holds what a desk can, and a slot of the 32
abbrev pub Rightly : Station → Thing → Type 0
Rightly s (packet c p) = Watched s c
Rightly s (left i d) = (i < s.channels) × DeskHolds d
Rightly s (gone k) = k < 32

pub did-settled : {s : Station} {store : List ℕ} (t : Thing) → Settled s store → Rightly s t → Settled (did s store t).station (did s store t).store
unfolding did
did-settled {s} {store} (packet c p) h w =
    let a = judged-stays c s store p in
    record {
      sized = stays-sized a h.sized;
      sound = judged-sound c s store p h.sized h.sound w;
      stored = judged-store c s store p ∙ rw a.blocks h.stored;
    }
did-settled {s} (left i d) h r =
    record {
      sized = desk-sized s i d h.sized;
      sound = desk-sound s i d h.sized (omega (arith, r.0, h.sound.set_up.few)) r.1 h.sound;
      stored = h.stored;
    }
did-settled {s} (gone k) h low =
    let r = let_go-refiles s k in
    record {
      sound = let_go-sound h.sized h.sound low;
      sized = refiled-sized r h.sized;
      stored = rw (stays-refiled r).blocks h.stored;
    }

-- each in the state that the ones before it leave
abbrev pub AllRightly : Station → List ℕ → List Thing → Type 0
AllRightly s store [] = Unit
AllRightly s store (t ∷ ts) = Rightly s t × AllRightly (did s store t).station (did s store t).store ts

pub all_settled : {s : Station} {store : List ℕ} (ts : List Thing) → Settled s store → AllRightly s store ts
    → Settled (did_all s store ts).station (did_all s store ts).store
unfolding did_all
all_settled [] h r = h
all_settled {s} {store} (t ∷ ts) h r = all_settled {s = (did s store t).station} {store = (did s store t).store} ts (did-settled t h r.0) r.1

pub rightly-append : (s : Station) (store : List ℕ) (ts us : List Thing) → AllRightly s store ts
    → AllRightly (did_all s store ts).station (did_all s store ts).store us → AllRightly s store (ts ++ us)
unfolding did_all
rightly-append s store [] us r q = q
rightly-append s store (t ∷ ts) us r q = (r.0, rightly-append (did s store t).station (did s store t).store ts us r.1 q)

pub rightly-rest : (s : Station) (store : List ℕ) (ts us : List Thing) → AllRightly s store (ts ++ us)
    → AllRightly s store ts × AllRightly (did_all s store ts).station (did_all s store ts).store us
unfolding did_all
rightly-rest s store [] us r = (tt, r)
rightly-rest s store (t ∷ ts) us r =
    let q = rightly-rest (did s store t).station (did s store t).store ts us r.1 in
    ((r.0, q.0), q.1)

rightly-frame : {c : Channel} {s : Station} (store : List ℕ) (ps : List (List ℕ)) (i : ℕ) (d : Desk) → Watched s c → i < s.channels → DeskHolds d
    → AllRightly s store (map (packet c) ps ++ (left i d ∷ []))
unfolding did
rightly-frame store [] i d w l h = ((l, h), tt)
rightly-frame {c} {s} store (p ∷ ps) i d w l h =
    let a = judged-stays c s store p in
    (w, rightly-frame {s = (judged c s store p).station} (judged c s store p).store ps i d (stays-watched a w) (rw a.channels l) h)

-- a call that is refused brings nothing
module _ (w : World) where
  pub things-refused : (c : Call) → (answer w c ≡ 0 → ⊥) → things w c ≡ []
  unfolding things
  things-refused (frame f list) n = if-false (framed_things w f (examined_in w f)) [] (ne_eqb (answer w (frame f list)) 0 n)
  things-refused (read k offset buffer) n = refl
  things-refused (let-go k) n = if-false (gone k ∷ []) [] (ne_eqb (answer w (let-go k)) 0 n)

  pub things-read : (k offset : ℕ) (buffer : List ℕ) → things w (read k offset buffer) ≡ []
  unfolding things
  things-read k offset buffer = refl

  pub things-let-go : (k : ℕ) → answer w (let-go k) ≡ 0 → things w (let-go k) ≡ gone k ∷ []
  unfolding things
  things-let-go k e = if-true (gone k ∷ []) [] (eq-eqb (answer w (let-go k)) 0 e)

  module _ {f list : List ℕ} (t : Taken w f list) where
    pub taken-zero : answer w (frame f list) ≡ 0
    unfolding answer
    taken-zero = ap (λ (r : FrameOutcome). r.answer) t.gives

    pub things-taken : things w (frame f list) ≡ framed_things w f (Ok t.frame)
    unfolding things
    things-taken =
        if-true (framed_things w f (examined_in w f)) [] (eq-eqb (answer w (frame f list)) 0 taken-zero) ∙ ap (framed_things w f) t.good

  pub frame-taken : (f list : List ℕ) → answer w (frame f list) ≡ 0 → Taken w f list
  unfolding answer
  frame-taken f list e = by (framing w f list)
    where
      by : Framing w f list → Taken w f list
      by (refuses n one q) = absurd (omega (arith, ap (λ (r : FrameOutcome). r.answer) q))
      by (takes t) = t

-- what a call leaves is what its things leave
pub record Leaves (w : World) (ts : List Thing) (v : World) : Type 0 where
  pub station : (did_all w.station w.store ts).station ≡ v.station
  pub store : (did_all w.station w.store ts).store ≡ v.store

module _ (w : World) where
  frame-leaves : (f list : List ℕ) → Taken w f list → Leaves w (things w (frame f list)) (runs.after w (frame f list))
  unfolding runs.after walked
  frame-leaves f list t =
      let s = w.station in
      let a = t.frame in
      let sp = split_in w f a in
      let e = did-frame (channel_at s a.desk) s w.store sp.packets a.desk (desk_after a (length sp.left)) in
      rw (things-taken w t)
      (record {
        station = ap (λ (j : Judged). j.station) e ∙ sym (ap (λ (r : FrameOutcome). r.station) t.gives);
        store = ap (λ (j : Judged). j.store) e ∙ sym (ap (λ (r : FrameOutcome). r.store) t.gives);
      })

  nothing-leaves : (v : World) (ts : List Thing) → v ≡ w → ts ≡ [] → Leaves w ts v
  unfolding did_all
  nothing-leaves v ts e q = rw (e, q) (record { station = refl; store = refl })

  done-leaves : (c : Call) → answer w c ≡ 0 → Leaves w (things w c) (runs.after w c)
  unfolding runs.after answer did did_all
  done-leaves (frame f list) e = frame-leaves f list (frame-taken w f list e)
  done-leaves (read k offset buffer) e = nothing-leaves w (things w (read k offset buffer)) refl (things-read w k offset buffer)
  done-leaves (let-go k) e = rw (things-let-go w k e, (let_go-outcome w.station k).done e) (record { station = refl; store = refl })

  pub call-leaves : (c : Call) → Leaves w (things w c) (runs.after w c)
  call-leaves c =
      elim (ℕ_discrete (answer w c) 0) [
        | yes e ↦ done-leaves c e
        | no n ↦ nothing-leaves (runs.after w c) (things w c) ((every-answer w c).refused n).world (things-refused w c n)
      ]

-- of a sound world
module _ {w : World} (h : SoundWorld w) where
  frame-rightly : (f list : List ℕ) → Taken w f list → AllRightly w.station w.store (things w (frame f list))
  frame-rightly f list t =
      let s = w.station in
      let a = t.frame in
      rw (things-taken w t)
      (rightly-frame w.store (split_in w f a).packets a.desk _ (desk-watched s f a t.good) (taken-low h t)
      (record {
        few = unfinished-few (split-left (reading_of s w.desks (zone_of (derandomised f)) a).octets);
        counter = taken-counter h t;
        unseen = λ e. absurd (true≢false e);
      }))

  done-rightly : (c : Call) → answer w c ≡ 0 → AllRightly w.station w.store (things w c)
  unfolding answer
  done-rightly (frame f list) e = frame-rightly f list (frame-taken w f list e)
  done-rightly (read k offset buffer) e = rw (things-read w k offset buffer) tt
  done-rightly (let-go k) e = rw (things-let-go w k e) (((let_go-zero w.station k).0 e).1, tt)

  pub call-rightly : (c : Call) → AllRightly w.station w.store (things w c)
  call-rightly c =
      elim (ℕ_discrete (answer w c) 0) [
        | yes e ↦ done-rightly c e
        | no n ↦ rw (things-refused w c n) tt
      ]

-- and of a run
pub run-leaves : (w : World) (cs : List Call) → Leaves w (all_things w cs) (run w cs)
unfolding all_things run did_all
run-leaves w [] = record { station = refl; store = refl }
run-leaves w (c ∷ cs) =
    let l = call-leaves w c in
    let m = run-leaves (runs.after w c) cs in
    let e = did-append w.station w.store (things w c) (all_things (runs.after w c) cs) in
    let us = all_things (runs.after w c) cs in
    record {
      station = ap (λ (j : Judged). j.station) e ∙ ap₂ (λ (s : Station) (m : List ℕ). (did_all s m us).station) l.station l.store ∙ m.station;
      store = ap (λ (j : Judged). j.store) e ∙ ap₂ (λ (s : Station) (m : List ℕ). (did_all s m us).store) l.station l.store ∙ m.store;
    }

pub run-rightly : {w : World} → SoundWorld w → (cs : List Call) → AllRightly w.station w.store (all_things w cs)
unfolding all_things
run-rightly h [] = tt
run-rightly {w} h (c ∷ cs) =
    let l = call-leaves w c in
    rightly-append w.station w.store (things w c) (all_things (runs.after w c) cs) (call-rightly h c)
    (rw (l.station, l.store) (run-rightly {w = runs.after w c} (after-sound h c) cs))

-- the state at any moment of a run
module _ (m : Moment) where
  world-then : SoundWorld (world_at m)
  world-then = run_sound (fresh-sound m.start) m.calls

  pub moment-rightly : AllRightly (world_at m).station (world_at m).store m.before
      × AllRightly (station_at m) (store_at m) (packet m.channel m.p ∷ m.later)
  moment-rightly =
      let w = world_at m in
      rightly-rest w.station w.store m.before (packet m.channel m.p ∷ m.later)
      (subst (AllRightly w.station w.store) m.brought (call-rightly world-then (frame m.sent m.list)))

  pub moment-settled : Settled (station_at m) (store_at m)
  moment-settled = all_settled m.before (settled world-then) moment-rightly.0
