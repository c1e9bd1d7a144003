-- At every moment of a run a slot holds exactly what came about, and event 6 frees at once. Assumes nothing.
use Rattle.std.specs.Prelude.{if◌then◌else◌}
use mathlib.Core.Path.{◌≡◌, refl, sym, ap, ap₂, subst, ◌∙◌}
use mathlib.Core.Bool.{Bool}
use mathlib.Core.Logic.{◌⊎◌, ◌↔◌, inl, inr, ⊎_elim}
use mathlib.Core.List.Memᴰ
use mathlib.Core.List.{List, [], ◌∷◌, ◌++◌, append_assoc}
use Prim.Native.Nat.{ℕ, ◌<◌}
use native.Mathlib.Omega.{arith}
use borrow.Author.Tests.{eq-eqb}
use lib.Dec.{eqb}
use lib.ListN.{length}
use Rattle.octets.proofs.Lists.{if-cases}
use Rattle.frame.specs.declared.Channel.{Channel}
use Rattle.packet.specs.Header.{packet_of}
use Rattle.state.specs.declared.Station.{Station}
use Rattle.state.specs.Slots.{slot_at, no_file}
use Rattle.state.specs.Blocks.{blocks_of, Stands}
use Rattle.state.proofs.Places.{stands-low, stands-once}
use Rattle.events.specs.Event.{Event, at, Among}
use Rattle.judge.specs.Judge.{Judged, judged, next_kind}
use Rattle.judge.proofs.Keeps.{judged-stays}
use Rattle.judge.proofs.Steps.{events_of, Step, judged-slot}
use Rattle.judge.proofs.Steps.Step.{same, ended, begun, begun-over, gone-on}
use Rattle.history.specs.Run.{fresh}
use Rattle.history.specs.Things.{Thing, did, did_all, all_things}
use Rattle.history.specs.Things.Thing.{packet}
use Rattle.history.specs.Files.{Came, HoldsWhatCame}
use Rattle.history.specs.Store.{Free, BelongsToOne, Moment, world_at, station_at, store_at, EveryPacket}
use Rattle.history.specs.Freed.{HeldThen, Gives, Freed, FreesAtOnce}
use Rattle.history.proofs.Sound.{fresh-sound}
use Rattle.history.proofs.Moments.{Settled, settled, AllRightly, did-append, rightly-append, run-leaves, run-rightly, moment-rightly, moment-settled}
use Rattle.history.proofs.Turns.{among_in, in-among}
use Rattle.history.proofs.Follows.{held-things, fresh-held}
use Rattle.history.proofs.Blocks.{moment-packet}

module _ (m : Moment) where
  start : Settled (fresh m.start).station (fresh m.start).store
  start = settled (fresh-sound m.start)

  -- the state at a moment is what all things up to it leave
  leaves : (us : List Thing)
      → (did_all (fresh m.start).station (fresh m.start).store (all_things (fresh m.start) m.calls ++ us)).station
      ≡ (did_all (world_at m).station (world_at m).store us).station
  leaves us =
      let w = fresh m.start in
      let l = run-leaves w m.calls in
      ap (λ (j : Judged). j.station) (did-append w.station w.store (all_things w m.calls) us)
      ∙ ap₂ (λ (s : Station) (store : List ℕ). (did_all s store us).station) l.station l.store

  all-rightly : (us : List Thing) → AllRightly (world_at m).station (world_at m).store us
      → AllRightly (fresh m.start).station (fresh m.start).store (all_things (fresh m.start) m.calls ++ us)
  all-rightly us r =
      let w = fresh m.start in
      let l = run-leaves w m.calls in
      rightly-append w.station w.store (all_things w m.calls) us (run-rightly (fresh-sound m.start) m.calls) (rw (l.station, l.store) r)

  holds : (us : List Thing) → AllRightly (world_at m).station (world_at m).store us
      → HoldsWhatCame m.start (all_things (fresh m.start) m.calls ++ us) (did_all (world_at m).station (world_at m).store us).station
  holds us r k low y e =
      let w = fresh m.start in
      subst (λ (t : Station). (slot_at t k ≡ y) ↔ Came w.station w.store (all_things w m.calls ++ us) k y) (leaves us)
      (held-things (all_things w m.calls ++ us) start (all-rightly us r) (fresh-held m.start) k low y e)

  behind-rightly : AllRightly (world_at m).station (world_at m).store (m.before ++ (packet m.channel m.p ∷ []))
  behind-rightly =
      let w = world_at m in
      rightly-append w.station w.store m.before (packet m.channel m.p ∷ []) (moment-rightly m).0 ((moment-rightly m).1.0, tt)

  pub held_then : HeldThen m
  unfolding did did_all
  held_then =
      let w = world_at m in
      let one = packet m.channel m.p ∷ [] in
      record {
        before = holds m.before (moment-rightly m).0;
        after =
            subst (λ (ts : List Thing). HoldsWhatCame m.start ts (judged m.channel (station_at m) (store_at m) m.p).station)
            (sym (append_assoc (all_things (fresh m.start) m.calls) m.before one))
            (subst (HoldsWhatCame m.start (all_things (fresh m.start) m.calls ++ (m.before ++ one)))
            (ap (λ (j : Judged). j.station) (did-append w.station w.store m.before one))
            (holds (m.before ++ one) behind-rightly));
      }

-- event 6 is no other event, so not among those of an opened file
six-only : {a k n : ℕ} → (6 ≡ n → ⊥) → at 6 a k ≡ at n a k → ⊥
six-only f e = f (ap (λ (x : Event). x.kind) e)

six-alone : {a k : ℕ} (n : ℕ) → (6 ≡ n → ⊥) → Among (at 6 a k) (at n a k ∷ []) → ⊥
six-alone n f m = six-only f (Memᴰ.eq_of_singleton m)

six-not-open : (a k : ℕ) (b : Bool) → Among (at 6 a k) (at 10 a k ∷ (if b then at 12 a k ∷ [] else [])) → ⊥
six-not-open a k b m =
    ⊎_elim (six-only (λ f. omega arith))
    (if-cases (λ (es : List Event). Among (at 6 a k) es → ⊥) b (λ e. six-alone 12 (λ f. omega arith)) (λ e. Memᴰ.not-nil)) (Memᴰ.cases_cons m)

module _ {s : Station} {store : List ℕ} (h : Settled s store) (c : Channel) (p : List ℕ) where
  -- what becomes of slot j is known
  step : (j : ℕ) → Step c s store p j (judged c s store p)
  step j = judged-slot c s store p h.sized h.sound h.stored j

  module _ (k : ℕ) (six : Gives 6 s store c p k) where
    told : {es : List Event} → events_of k (judged c s store p).events ≡ es → Among (at 6 (packet_of p).application.0 k) es
    told q = in-among k (eq-eqb k k refl) six q

    freed-slot : Step c s store p k (judged c s store p)
        → ((slot_at (judged c s store p).station k ≡ no_file) × (blocks_of (judged c s store p).station k ≡ [])) ⊎ Gives 10 s store c p k
    freed-slot (same u q) = absurd (Memᴰ.not-nil (told q))
    freed-slot (ended e x b q) = inl (x, b)
    freed-slot (begun u st f o q) = absurd (six-not-open (packet_of p).application.0 k (eqb (packet_of p).flags 3) (told q))
    freed-slot (begun-over e st o q) = inr (among_in k q (Memᴰ.tail (Memᴰ.head refl)))
    freed-slot (gone-on g q) =
        absurd
        (six-alone (next_kind (packet_of p))
        (if-cases (λ (n : ℕ). 6 ≡ n → ⊥) (eqb (packet_of p).flags 2) (λ e f. omega arith) (λ e f. omega arith)) (told q))

    -- a block that the file had and that now stands in slot j: the packet began a file there
    module _ (b i j n : ℕ) (a : Stands s b k i) (t : Stands (judged c s store p).station b j n) where
      -- if the blocks of j are as they were, it is slot k
      moved : blocks_of (judged c s store p).station j ≡ blocks_of s j → k ≡ j
      moved e = (stands-once a (record { low = rw e at t.low; here = rw e at t.here })).0

      once_more : k ≡ j → Gives 10 s store c p j
      once_more e = ⊎_elim (λ (x, bs). absurd (omega (arith, ap length bs, rw (sym e) at t.low))) (λ m. rw (sym e) m) (freed-slot (step k))

      taken-over : Step c s store p j (judged c s store p) → Gives 10 s store c p j
      taken-over (same u q) = once_more (moved u.blocks)
      taken-over (ended e x bs q) = absurd (omega (arith, ap length bs, t.low))
      taken-over (begun u st f o q) = among_in j q (Memᴰ.head refl)
      taken-over (begun-over e st o q) = among_in j q (Memᴰ.tail (Memᴰ.head refl))
      taken-over (gone-on g q) = once_more (moved g.blocks)

    freed : ((b : ℕ) → b < (judged c s store p).station.blocks → Free (judged c s store p).station b ⊎ BelongsToOne (judged c s store p).station b)
        → Freed s store c p k
    freed each =
        record {
          slot = freed-slot (step k);
          blocks =
              λ b i a.
              ⊎_elim inl (λ o. inr (o.slot, taken-over b i o.slot o.place a o.stands (step o.slot), (o.place, o.stands)))
              (each b (omega (arith, stands-low a, (judged-stays c s store p).blocks)));
        }

-- "An abandoned .. file frees its slot and blocks"
pub frees-at-once : EveryPacket FreesAtOnce
frees-at-once m k low six = freed (moment-settled m) m.channel m.p k six (moment-packet m).after.each
