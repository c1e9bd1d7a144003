-- A held file is what following the things since its opening gives. Assumes nothing.
use Rattle.std.specs.Prelude.{Some}
use mathlib.Core.Path.{◌≡◌, refl, sym, ap, subst, ◌∙◌}
use mathlib.Core.Bool.{true, false, true≢false}
use mathlib.Core.Logic.{◌⊎◌, ◌↔◌, inl, inr, ⊎_elim}
use mathlib.Core.List.Memᴰ
use mathlib.Core.List.{List, [], ◌∷◌, Memᴰ}
use Prim.Native.Nat.{ℕ, ◌+◌, ◌/◌, ◌<◌}
use native.Mathlib.Omega.{arith}
use borrow.Author.Tests.{eq-eqb, eqb-true}
use lib.Dec.{eqb}
use lib.ListN.{length}
use Rattle.octets.proofs.Lists.{if-cases}
use Rattle.frame.specs.declared.Channel.{Channel}
use Rattle.packet.specs.declared.Application.{Application}
use Rattle.packet.specs.declared.Packet.{Packet}
use Rattle.packet.specs.Header.{packet_of}
use Rattle.transport.specs.declared.Transport.{Transport}
use Rattle.transport.specs.Shape.{begun_of}
use Rattle.state.specs.declared.Slot.{Slot}
use Rattle.state.specs.declared.Station.{Station}
use Rattle.state.specs.Slots.{slot_at, held, complete, need_of}
use Rattle.state.specs.Blocks.{blocks_of}
use Rattle.octets.proofs.Tests.{and_left, and_right}
use Rattle.room.proofs.Keeps.{accepted-held}
use Rattle.events.specs.Event.{Event, at, Among}
use Rattle.judge.specs.Judge.{Judged, data_of, first_slot, next_slot, judged, next_kind}
use Rattle.judge.proofs.Keeps.{file-going}
use Rattle.judge.proofs.Steps.{events_of, Step, judged-slot}
use Rattle.judge.proofs.Steps.Step.{same, ended, begun, begun-over, gone-on}
use Rattle.station.proofs.Fresh.{fresh-none}
use Rattle.station.proofs.Calls.{set_up-outcome}
use Rattle.history.specs.Run.{Call, run, Start, fresh}
use Rattle.history.specs.Things.{Thing, did, did_all, all_things}
use Rattle.history.specs.Things.Thing.{packet, gone}
use Rattle.history.specs.Follow.{Fate, fate, follow}
use Rattle.history.specs.Follow.Fate.{Still, Ended}
use Rattle.history.specs.Files.{Came, HeldExactly}
use Rattle.history.specs.Store.{Keeps}
use Rattle.history.proofs.Moments.{Settled, settled, AllRightly, did-append, did-settled, all_settled, rightly-rest, run-leaves, run-rightly}
use Rattle.history.proofs.Sound.{fresh-sound}
use Rattle.history.proofs.Turns.{LetGo, in-among, Turn, turn}
use Rattle.history.proofs.Turns.Turn.{stays, goes, leaves, opens}

module _ (k : ℕ) (x : Slot) (t : Thing) (ts : List Thing) where
  pub follow-on : {y : Slot} → fate k x t ≡ Still y → follow k x (t ∷ ts) ≡ follow k y ts
  unfolding follow
  follow-on e = ap (λ (f : Fate). elim f [ Still z ↦ follow k z ts | Ended ↦ Ended ]) e

  pub follow-over : fate k x t ≡ Ended → follow k x (t ∷ ts) ≡ Ended
  unfolding follow
  follow-over e = ap (λ (f : Fate). elim f [ Still z ↦ follow k z ts | Ended ↦ Ended ]) e

keeps-all : (s : Station) (k : ℕ) → held (slot_at s k) ≡ true → Keeps s s k
keeps-all s k e = record { held = e; channel = refl; application = refl; bits = refl; blocks = refl; accepted = omega arith }

keeps_then : {s t u : Station} {k : ℕ} → Keeps s t k → Keeps t u k → Keeps s u k
keeps_then a b =
    record {
      held = b.held;
      channel = b.channel ∙ a.channel;
      application = b.application ∙ a.application;
      bits = b.bits ∙ a.bits;
      blocks = b.blocks ∙ a.blocks;
      accepted = omega (arith, a.accepted, b.accepted);
    }

keeps_same : (s t : Station) (k : ℕ) → slot_at t k ≡ slot_at s k → blocks_of t k ≡ blocks_of s k → held (slot_at s k) ≡ true → Keeps s t k
keeps_same s t k e b h =
    record {
      held = ap held e ∙ h;
      channel = ap (λ (x : Slot). x.channel) e;
      application = ap (λ (x : Slot). x.application) e;
      bits = ap (λ (x : Slot). x.bits) e;
      blocks = b;
      accepted = omega (arith, ap (λ (x : Slot). x.accepted) e);
    }

keeps-next : (s t : Station) (k : ℕ) (h : Packet) → slot_at t k ≡ next_slot (slot_at s k) h → blocks_of t k ≡ blocks_of s k → Keeps s t k
keeps-next s t k h e b =
    let more : (slot_at t k).accepted ≡ (slot_at s k).accepted + 1 = ap (λ (x : Slot). x.accepted) e in
    record {
      held = accepted-held (slot_at t k) (omega arith);
      channel = ap (λ (x : Slot). x.channel) e;
      application = ap (λ (x : Slot). x.application) e;
      bits = ap (λ (x : Slot). x.bits) e;
      blocks = b;
      accepted = omega arith;
    }

-- what is known of a held file after things: it is as followed, with all that it had; or there is a reason for its end
abbrev pub Fares : Station → List ℕ → List Thing → ℕ → Fate → Type 0
Fares s store ts k (Still y) = (slot_at (did_all s store ts).station k ≡ y) × Keeps s (did_all s store ts).station k
Fares s store ts k Ended = Among (at 6 (slot_at s k).application.0 k) (did_all s store ts).events ⊎ Memᴰ (gone k) ts

let-go : (s : Station) (store : List ℕ) (k : ℕ) (t : Thing) (ts : List Thing) → LetGo (slot_at s k) t k (did s store t) → Fares s store (t ∷ ts) k Ended
unfolding did_all
let-go s store k t ts (inl m) = inl (Memᴰ.append_left _ m)
let-go s store k t ts (inr e) = inr (Memᴰ.head (sym e))

module _ (s : Station) (store : List ℕ) (k : ℕ) (t : Thing) (ts : List Thing) where
  fares-on : (f : Fate) → Keeps s (did s store t).station k → Fares (did s store t).station (did s store t).store ts k f → Fares s store (t ∷ ts) k f
  unfolding did_all
  fares-on (Still y) a (e, b) = (e, keeps_then a b)
  fares-on Ended a (inl m) = inl (Memᴰ.append_right (did s store t).events (Memᴰ.cast (ap (λ (i : Application). at 6 i.0 k) (sym a.application)) m))
  fares-on Ended a (inr m) = inr (Memᴰ.tail m)

pub fares : {s : Station} {store : List ℕ} (ts : List Thing) → Settled s store → AllRightly s store ts → (k : ℕ) → k < 32 → held (slot_at s k) ≡ true
    → Fares s store ts k (follow k (slot_at s k) ts)
unfolding did_all follow
fares {s} [] h r k low e = (refl, keeps-all s k e)
fares {s} {store} (t ∷ ts) h r k low e = by (turn h k low t) (fares {s = (did s store t).station} {store = (did s store t).store} ts (did-settled t h r.0) r.1 k low)
  where
    by : Turn s store t k (did s store t)
        → (held (slot_at (did s store t).station k) ≡ true
        → Fares (did s store t).station (did s store t).store ts k (follow k (slot_at (did s store t).station k) ts))
        → Fares s store (t ∷ ts) k (follow k (slot_at s k) (t ∷ ts))
    by (stays u f g) rest =
        let a = keeps_same s (did s store t).station k u.slot u.blocks e in
        rw (follow-on k (slot_at s k) t ts f) (fares-on s store k t ts (follow k (slot_at s k) ts) a (rw u.slot at (rest a.held)))
    by (goes {p = p} q g f n) rest =
        let a = keeps-next s (did s store t).station k (packet_of p) g.slot g.blocks in
        rw (follow-on k (slot_at s k) t ts f) (fares-on s store k t ts (follow k (slot_at (did s store t).station k) ts) a (rest a.held))
    by (leaves f n why) rest = rw (follow-over k (slot_at s k) t ts f) (let-go s store k t ts why)
    by (opens q u st why o m n) rest = rw (follow-over k (slot_at s k) t ts (why e).0) (let-go s store k t ts (why e).1)

-- the slot of a file that event 10 tells of
module _ {s : Station} {store : List ℕ} (h : Settled s store) (k : ℕ) (c : Channel) (p : List ℕ) where
  pub opened-slot : Among (at 10 (packet_of p).application.0 k) (judged c s store p).events
      → {t : Transport} → begun_of (packet_of p).flags (data_of p) ≡ Some t
      → slot_at (judged c s store p).station k ≡ first_slot c (packet_of p) t
  opened-slot m {t} right = by (judged-slot c s store p h.sized h.sound h.stored k)
    where
      told : {es : List Event} → events_of k (judged c s store p).events ≡ es → Among (at 10 (packet_of p).application.0 k) es
      told q = in-among k (eq-eqb k k refl) m q

      first : {t' : Transport} → slot_at (judged c s store p).station k ≡ first_slot c (packet_of p) t'
          → begun_of (packet_of p).flags (data_of p) ≡ Some t' → slot_at (judged c s store p).station k ≡ first_slot c (packet_of p) t
      first {t'} e q =
          let one : t' ≡ t = cc in
          e ∙ ap (first_slot c (packet_of p)) one

      other : (i a : ℕ) → (10 ≡ i → ⊥) → Among (at 10 (packet_of p).application.0 k) (at i a k ∷ []) → ⊥
      other i a f q = f (ap (λ (e : Event). e.kind) (Memᴰ.eq_of_singleton q))

      by : Step c s store p k (judged c s store p) → slot_at (judged c s store p).station k ≡ first_slot c (packet_of p) t
      by (same u q) = absurd (Memᴰ.not-nil (told q))
      by (ended e x b q) = absurd (other 6 (packet_of p).application.0 (λ f. omega arith) (told q))
      by (begun u st f o q) = first o.slot o.right
      by (begun-over e st o q) = first o.slot o.right
      by (gone-on g q) =
          absurd
          (other (next_kind (packet_of p)) (packet_of p).application.0
          (if-cases (λ (i : ℕ). 10 ≡ i → ⊥) (eqb (packet_of p).flags 2) (λ e f. omega arith) (λ e f. omega arith)) (told q))

-- a file of which the first packet is among the things is what following it gives
pub came_held : (s : Station) (store : List ℕ) (ts : List Thing) → Settled s store → AllRightly s store ts → (k : ℕ) → k < 32 → (x : Slot)
    → Came s store ts k x → slot_at (did_all s store ts).station k ≡ x
unfolding did did_all
came_held s store ts h r k low x m =
    let first = packet m.channel m.first in
    let (r₀, r₁) = rightly-rest s store m.before (first ∷ m.later) (subst (AllRightly s store) m.split r) in
    let b = did_all s store m.before in
    let h₀ = all_settled m.before h r₀ in
    let j = did b.station b.store first in
    let slot : slot_at j.station k ≡ first_slot m.channel (packet_of m.first) m.file = opened-slot h₀ k m.channel m.first m.opened m.starts.right in
    let one : (slot_at j.station k).accepted ≡ 1 = ap (λ (y : Slot). y.accepted) slot in
    let f = fares m.later (did-settled first h₀ r₁.0) r₁.1 k low (accepted-held (slot_at j.station k) (omega arith)) in
    let e : follow k (slot_at j.station k) m.later ≡ Still x = ap (λ (y : Slot). follow k y m.later) slot ∙ m.followed in
    let g : Fares j.station j.store m.later k (Still x) = subst (Fares j.station j.store m.later k) e f in
    ap (λ (us : List Thing). slot_at (did_all s store us).station k) m.split
    ∙ ap (λ (i : Judged). slot_at i.station k) (did-append s store m.before (first ∷ m.later))
    ∙ g.0

-- and a file that is held either was there before, or its first packet is among the things
abbrev Origin : Station → List ℕ → List Thing → ℕ → Slot → Type 0
Origin s store ts k x = ((held (slot_at s k) ≡ true) × (follow k (slot_at s k) ts ≡ Still x)) ⊎ Came s store ts k x

came-later : (s : Station) (store : List ℕ) (t : Thing) (ts : List Thing) (k : ℕ) (x : Slot)
    → Came (did s store t).station (did s store t).store ts k x → Came s store (t ∷ ts) k x
unfolding did_all
came-later s store t ts k x m =
    record {
      before = t ∷ m.before;
      channel = m.channel;
      first = m.first;
      later = m.later;
      file = m.file;
      split = ap (λ (us : List Thing). t ∷ us) m.split;
      starts = m.starts;
      opened = m.opened;
      followed = m.followed;
    }

module _ {s : Station} {store : List ℕ} (h : Settled s store) (t : Thing) (ts : List Thing) (k : ℕ) (x : Slot) where
  came-first : Turn s store t k (did s store t) → held (slot_at (did s store t).station k) ≡ true
      → follow k (slot_at (did s store t).station k) ts ≡ Still x → Origin s store (t ∷ ts) k x
  unfolding did did_all held
  came-first (stays u f n) e q =
      inl (ap held (sym u.slot) ∙ e, follow-on k (slot_at s k) t ts f ∙ ap (λ (y : Slot). follow k y ts) (sym u.slot) ∙ q)
  came-first (goes {c} {p} a g f n) e q =
      inl ((file-going h.sized h.sound c (packet_of p).application g.file).held, follow-on k (slot_at s k) t ts f ∙ q)
  came-first (leaves f n why) e q = absurd (true≢false (sym e ∙ ap held n))
  came-first (opens {c} {p} a u st why o m n) e q =
      inr
      (record {
        before = [];
        channel = c;
        first = p;
        later = ts;
        file = o.file;
        split = ap (λ (i : Thing). i ∷ ts) a;
        starts = record { undamaged = u; starting = st; right = o.right };
        opened = subst (λ (i : Thing). Among (at 10 (packet_of p).application.0 k) (did s store i).events) a m;
        followed = ap (λ (y : Slot). follow k y ts) (sym o.slot) ∙ q;
      })

pub origin : {s : Station} {store : List ℕ} (ts : List Thing) → Settled s store → AllRightly s store ts → (k : ℕ) → k < 32
    → held (slot_at (did_all s store ts).station k) ≡ true → Origin s store ts k (slot_at (did_all s store ts).station k)
unfolding did_all follow
origin [] h r k low e = inl (e, refl)
origin {s} {store} (t ∷ ts) h r k low e =
    let j = did s store t in
    let x = slot_at (did_all j.station j.store ts).station k in
    ⊎_elim (λ (a, f). came-first h t ts k x (turn h k low t) a f) (λ m. inr (came-later s store t ts k x m))
    (origin {s = (did s store t).station} {store = (did s store t).store} ts (did-settled t h r.0) r.1 k low e)

-- a complete file is held, and all its packets are accepted
pub complete-held : (x : Slot) → complete x ≡ true → (held x ≡ true) × (x.accepted ≡ need_of x)
unfolding complete
complete-held x e =
    (and_left (held x) (eqb x.accepted (need_of x)) e, eqb-true x.accepted (need_of x) (and_right (held x) (eqb x.accepted (need_of x)) e))

-- from a fresh station no file was there before
pub fresh-held : (x : Start) (k : ℕ) → held (slot_at (fresh x).station k) ≡ false
fresh-held x k =
    rw ((set_up-outcome x.spacecraft x.channels x.desks x.store).done x.good)
    (fresh-none x.spacecraft x.channels (length x.store / 8190) k)

-- a slot holds what came about by any things, and nothing else, from a state that holds no file
pub held-things : {s : Station} {store : List ℕ} (ts : List Thing) → Settled s store → AllRightly s store ts
    → ((k : ℕ) → held (slot_at s k) ≡ false) → (k : ℕ) → k < 32 → (y : Slot) → held y ≡ true
    → (slot_at (did_all s store ts).station k ≡ y) ↔ Came s store ts k y
held-things {s} {store} ts h r none k low y e = (
  λ q.
      subst (Came s store ts k) q
      (⊎_elim (λ (f, g). absurd (true≢false (sym f ∙ none k))) (λ m. m) (origin ts h r k low (ap held q ∙ e))),
  λ m. came_held s store ts h r k low y m,
)

module _ (x : Start) (cs : List Call) where
  here : Settled (fresh x).station (fresh x).store
  here = settled (fresh-sound x)

  right : AllRightly (fresh x).station (fresh x).store (all_things (fresh x) cs)
  right = run-rightly (fresh-sound x) cs

  end : (did_all (fresh x).station (fresh x).store (all_things (fresh x) cs)).station ≡ (run (fresh x) cs).station
  end = (run-leaves (fresh x) cs).station

  pub held-exactly : HeldExactly x cs
  held-exactly k low y e =
      subst (λ (s : Station). (slot_at s k ≡ y) ↔ Came (fresh x).station (fresh x).store (all_things (fresh x) cs) k y) end
      (held-things (all_things (fresh x) cs) here right (fresh-held x) k low y e)

  pub came : (k : ℕ) → k < 32 → held (slot_at (run (fresh x) cs).station k) ≡ true
      → Came (fresh x).station (fresh x).store (all_things (fresh x) cs) k (slot_at (run (fresh x) cs).station k)
  came k low e = (held-exactly k low (slot_at (run (fresh x) cs).station k) e).0 refl
