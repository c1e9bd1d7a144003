-- What one thing does to one slot, and that it is what the slot's fate says. Assumes nothing.
use Rattle.std.specs.Prelude.{if◌then◌else◌, Some}
use mathlib.Core.Path.{◌≡◌, refl, sym, ap, subst, ◌∙◌}
use mathlib.Core.Bool.{Bool, true, false, not, ◌&&◌, ◌||◌, true≢false}
use mathlib.Core.Logic.{◌⊎◌, inl, inr, ⊎_elim}
use mathlib.Core.List.Memᴰ
use mathlib.Core.List.{List, [], ◌∷◌, ◌++◌}
use Prim.Native.Nat.{ℕ, ◌<◌}
use native.Mathlib.Decide.{ℕ_discrete}
use borrow.Author.Tests.{eq-eqb, ne_eqb, eqb-true, eqb-false}
use lib.Dec.{eqb, leb}
use Rattle.octets.specs.Choice.{Decides}
use Rattle.octets.proofs.Lists.{if-true, if-false, if-cases}
use Rattle.octets.proofs.Decide.{told-true, tells, decides-same, decides-self, decides-leb, decides_eqb, ◌and◌, decides_or, decides_not}
use Rattle.frame.specs.declared.Channel.{Channel}
use Rattle.packet.specs.declared.Packet.{Packet}
use Rattle.packet.specs.Header.{packet_of}
use Rattle.state.specs.declared.Slot.{Slot}
use Rattle.state.specs.declared.Station.{Station}
use Rattle.state.specs.Slots.{slot_at, no_file, held, incomplete, of_pair}
use Rattle.state.specs.Sound.{Sized, Sound}
use Rattle.room.specs.Find.{file_of}
use Rattle.room.proofs.Find.{same-pair, file-at, file-only}
use Rattle.room.proofs.Keeps.{refiled-slot, refiled-slots, let_go-refiles}
use Rattle.events.specs.Event.{Event, at, Among}
use Rattle.judge.specs.Judge.{Judged, data_of, next_slot, starts_file, goes_on, judged, next_kind, is_intact}
use Rattle.judge.specs.Packets.{Undamaged, Starting}
use Rattle.judge.proofs.Parts.{open_events}
use Rattle.judge.proofs.Steps.{about, events_of, Unchanged, Opened, Ending, GoneOn, Step, judged-slot}
use Rattle.judge.proofs.Steps.Step.{same, ended, begun, begun-over, gone-on}
use Rattle.judge.proofs.Exact.{Given, GoesOn, given-exactly, abandoned-exactly}
use Rattle.judge.proofs.Exact.Given.{accepted, completed}
use Rattle.history.specs.Things.{Thing, did}
use Rattle.history.specs.Things.Thing.{packet, left, gone}
use Rattle.history.specs.Follow.{concerns, ends, adds, fate}
use Rattle.history.specs.Follow.Fate.{Still, Ended}
use Rattle.history.specs.Ledger.{Page, told, noted, noted_by}
use Rattle.history.proofs.Moments.{Settled}

-- the tests of a slot and a packet, in the words of the laws of a packet
pub starts-exactly : (p : List ℕ) → Decides (Starting (packet_of p)) (starts_file (packet_of p))
starts-exactly p = decides_or (decides_eqb (packet_of p).flags 1) (decides_eqb (packet_of p).flags 3)

pub false-unless : (b : Bool) → (b ≡ true → ⊥) → b ≡ false
false-unless true f = absurd (f refl)
false-unless false f = refl

not_so : (b : Bool) → Decides (b ≡ false) (not b)
not_so b = decides-same (false-unless b) (λ e f. true≢false (sym f ∙ e)) (decides_not (decides-self b))

module _ {s : Station} (z : Sized s) (S : Sound s) (c : Channel) (p : List ℕ) (k : ℕ) (low : k < 32) where
  -- the file of the packet's channel and application is in slot k
  concerns-exactly : Decides (Undamaged p × (file_of s c (packet_of p).application ≡ Some k)) (concerns (slot_at s k) c p)
  unfolding concerns
  concerns-exactly =
      let a = (packet_of p).application in
      decides-same
      (λ (((going, pair), file), intact). (record { file = file; intact = intact }, file-only s c a z S k low going pair))
      (λ (u, f). ((((file-at s c a k f).incomplete, (file-at s c a k f).pair), u.file), u.intact))
      (decides-self (incomplete (slot_at s k)) and decides-self (of_pair c a (slot_at s k)) and decides-leb a.0 2015
      and decides-self (is_intact p))

  -- THE law of event 6: it is decided by the slot and the packet
  pub ends-exactly : Decides (Ending c s p k) (ends (slot_at s k) c p)
  unfolding ends
  ends-exactly =
      decides-same (λ ((u, f), why). record { undamaged = u; file = f; why = why }) (λ e. ((e.undamaged, e.file), e.why))
      (concerns-exactly and decides_or (starts-exactly p) (not_so (goes_on (slot_at s k) (packet_of p) (data_of p))))

  pub adds-exactly : Decides (GoesOn c s p k) (adds (slot_at s k) c p)
  unfolding adds
  adds-exactly =
      decides-same (λ (((u, f), l), g). record { undamaged = u; later = l; file = f; goes = g }) (λ g. (((g.undamaged, g.file), g.later), g.goes))
      (concerns-exactly and decides_not (starts-exactly p) and decides-self (goes_on (slot_at s k) (packet_of p) (data_of p)))

-- events that name a slot
among-if : {e x : Event} {es fs : List Event} (b : Bool) → (Among e fs → Among e es) → Among e (if b then x ∷ fs else fs) → Among e (x ∷ es)
among-if true f n = ⊎_elim (λ q. Memᴰ.head q) (λ q. Memᴰ.tail (f q)) (Memᴰ.cases_cons n)
among-if false f n = Memᴰ.tail (f n)

pub among_of : (k : ℕ) (es : List Event) {e : Event} → Among e (events_of k es) → Among e es
unfolding events_of
among_of k [] m = m
among_of k (x ∷ es) m = among-if (about k x) (among_of k es) m

pub among_in : (k : ℕ) {es fs : List Event} {e : Event} → events_of k es ≡ fs → Among e fs → Among e es
among_in k {es} {e = e} q m = among_of k es (subst (Among e) (sym q) m)

kept_if : {e x : Event} {es fs : List Event} (k : ℕ) (b : Bool) → about k x ≡ b → about k e ≡ true → (Among e es → Among e fs)
    → Among e (x ∷ es) → Among e (if b then x ∷ fs else fs)
kept_if k true f a g m = ⊎_elim (λ q. Memᴰ.head q) (λ n. Memᴰ.tail (g n)) (Memᴰ.cases_cons m)
kept_if k false f a g m = ⊎_elim (λ q. absurd (true≢false (sym a ∙ ap (about k) q ∙ f))) g (Memᴰ.cases_cons m)

among-kept : (k : ℕ) (es : List Event) {e : Event} → about k e ≡ true → Among e es → Among e (events_of k es)
unfolding events_of
among-kept k [] a m = m
among-kept k (x ∷ es) a m = kept_if k (about k x) refl a (among-kept k es a) m

pub in-among : (k : ℕ) {es fs : List Event} {e : Event} → about k e ≡ true → Among e es → events_of k es ≡ fs → Among e fs
in-among k {es} {e = e} a m q = subst (Among e) q (among-kept k es a m)

-- the kinds of event that name a slot
abbrev naming : ℕ → Bool
naming n = eqb n 6 || leb 10 n && leb n 12

told-past : (n k : ℕ) (x : Event) → naming n ≡ true → about k x ≡ false → (eqb x.kind n && eqb x.slot k) ≡ false
told-past n k x a f = by (eqb x.kind n) refl
  where
    by : (b : Bool) → eqb x.kind n ≡ b → (b && eqb x.slot k) ≡ false
    by true e = sym (ap (λ (m : Bool). m && eqb x.slot k) (ap naming (eqb-true x.kind n e) ∙ a)) ∙ f
    by false e = refl

told_of : (n k : ℕ) → naming n ≡ true → (es : List Event) → told n k es ≡ told n k (events_of k es)
unfolding told events_of
told_of n k a [] = refl
told_of n k a (x ∷ es) = by (about k x) refl (told_of n k a es)
  where
    by : (b : Bool) → about k x ≡ b → told n k es ≡ told n k (events_of k es)
        → (eqb x.kind n && eqb x.slot k || told n k es) ≡ told n k (if b then x ∷ events_of k es else events_of k es)
    by true f e = ap (λ (m : Bool). eqb x.kind n && eqb x.slot k || m) e
    by false f e = ap (λ (m : Bool). m || told n k es) (told-past n k x a f) ∙ e

-- so a page is written by the events that name its slot
noted_of : (k : ℕ) (d : List ℕ) (q : Page) (es : List Event) {fs : List Event} → events_of k es ≡ fs → noted k d es q ≡ noted k d fs q
unfolding noted
noted_of k d q es e =
    rw (← e) (rw (told_of 10 k refl es, told_of 11 k refl es, told_of 12 k refl es, told_of 6 k refl es))

module _ (k : ℕ) (d : List ℕ) (q : Page) where
  noted-none : noted k d [] q ≡ q
  unfolding noted told
  noted-none = refl

  noted-open : (h : Packet) → noted k d (open_events h k) q ≡ d ∷ []
  unfolding noted told
  noted-open h = rw (eq-eqb k k refl)

  noted-over : (a : ℕ) (h : Packet) → noted k d (at 6 a k ∷ open_events h k) q ≡ d ∷ []
  unfolding noted told
  noted-over a h = rw (eq-eqb k k refl)

  noted-next : (a : ℕ) (h : Packet) → noted k d (at (next_kind h) a k ∷ []) q ≡ q ++ (d ∷ [])
  unfolding noted told
  noted-next a h =
      if-cases (λ (n : ℕ). noted k d (at n a k ∷ []) q ≡ q ++ (d ∷ [])) (eqb h.flags 2) (λ e. rw (eq-eqb k k refl) refl)
      (λ e. rw (eq-eqb k k refl) refl)

pub none-held : held no_file ≡ false
unfolding held
none-held = refl

-- why the file x of slot k is let go: event 6 that names both, or the user
abbrev pub LetGo : Slot → Thing → ℕ → Judged → Type 0
LetGo x t k j = Among (at 6 x.application.0 k) j.events ⊎ (t ≡ gone k)

-- what thing t does to slot k, with the slot's fate, and what becomes of its page
pub data Turn (s : Station) (store : List ℕ) (t : Thing) (k : ℕ) (j : Judged) : Type 0 where
  stays : Unchanged s store k j.station j.store → fate k (slot_at s k) t ≡ Still (slot_at s k)
      → ((q : Page) → noted_by k t j.events q ≡ q) → Turn s store t k j
  goes : {c : Channel} {p : List ℕ} → t ≡ packet c p → GoneOn c s store p k j.station j.store
      → fate k (slot_at s k) t ≡ Still (slot_at j.station k)
      → ((q : Page) → noted_by k t j.events q ≡ q ++ (data_of p ∷ [])) → Turn s store t k j
  leaves : fate k (slot_at s k) t ≡ Ended → slot_at j.station k ≡ no_file → LetGo (slot_at s k) t k j → Turn s store t k j
  opens : {c : Channel} {p : List ℕ} {u : Station} → t ≡ packet c p → Undamaged p → Starting (packet_of p)
      → (held (slot_at s k) ≡ true → (fate k (slot_at s k) t ≡ Ended) × LetGo (slot_at s k) t k j)
      → Opened c u store (packet_of p) (data_of p) k j.station j.store
      → Among (at 10 (packet_of p).application.0 k) j.events
      → ((q : Page) → noted_by k t j.events q ≡ data_of p ∷ []) → Turn s store t k j

-- the fate of a slot's file, read off
module _ (k : ℕ) (x : Slot) (c : Channel) (p : List ℕ) where
  fate-ended : ends x c p ≡ true → fate k x (packet c p) ≡ Ended
  unfolding fate
  fate-ended e = if-true Ended _ e

  fate-still : ends x c p ≡ false → adds x c p ≡ false → fate k x (packet c p) ≡ Still x
  unfolding fate
  fate-still e f = if-false Ended _ e ∙ ap Still (if-false (next_slot x (packet_of p)) x f)

  fate-next : ends x c p ≡ false → adds x c p ≡ true → fate k x (packet c p) ≡ Still (next_slot x (packet_of p))
  unfolding fate
  fate-next e f = if-false Ended _ e ∙ ap Still (if-true (next_slot x (packet_of p)) x f)

module _ {s : Station} {store : List ℕ} (h : Settled s store) (k : ℕ) (low : k < 32) where
  module _ (c : Channel) (p : List ℕ) where
    given : (n : ℕ) → Given c s p n k → Among (at n (packet_of p).application.0 k) (judged c s store p).events
    given n g = (given-exactly c s store p (at n (packet_of p).application.0 k)).1 (record { application = refl; reason = g })

    next-among : GoesOn c s p k → (b : Bool) → eqb (packet_of p).flags 2 ≡ b
        → Among (at (if b then 12 else 11) (packet_of p).application.0 k) (judged c s store p).events
    next-among g true e = given 12 (completed g (eqb-true (packet_of p).flags 2 e))
    next-among g false e = given 11 (accepted g (eqb-false (packet_of p).flags 2 e))

    about-next : about k (at (next_kind (packet_of p)) (packet_of p).application.0 k) ≡ true
    about-next =
        if-cases (λ (n : ℕ). about k (at n (packet_of p).application.0 k) ≡ true) (eqb (packet_of p).flags 2) (λ e. eq-eqb k k refl)
        (λ e. eq-eqb k k refl)

    -- no event names the slot: the packet neither ends its file nor goes on with it
    quiet : events_of k (judged c s store p).events ≡ [] → fate k (slot_at s k) (packet c p) ≡ Still (slot_at s k)
    quiet q =
        fate-still k (slot_at s k) c p
        (false-unless _
        (λ e.
        Memᴰ.not-nil
        (in-among k {e = at 6 (packet_of p).application.0 k} (eq-eqb k k refl)
        ((abandoned-exactly c s store p k).1 (told-true (ends-exactly h.sized h.sound c p k low) e)) q)))
        (false-unless _
        (λ e.
        Memᴰ.not-nil
        (in-among k about-next
        (next-among (told-true (adds-exactly h.sized h.sound c p k low) e) (eqb (packet_of p).flags 2) refl) q)))

    over : Ending c s p k → fate k (slot_at s k) (packet c p) ≡ Ended
    over e = fate-ended k (slot_at s k) c p (tells (ends-exactly h.sized h.sound c p k low) e)

    -- the file that is ended is of the packet's application
    among-six : Ending c s p k → Among (at 6 (packet_of p).application.0 k) (judged c s store p).events
        → Among (at 6 (slot_at s k).application.0 k) (judged c s store p).events
    among-six e m =
        let x = slot_at s k in
        let same = (same-pair c (packet_of p).application x (file-at s c (packet_of p).application k e.file).pair).1 in
        Memᴰ.cast (ap (λ (a : ℕ). at 6 a k) same) m

    one_more : (j : Judged) → GoneOn c s store p k j.station j.store → fate k (slot_at s k) (packet c p) ≡ Still (slot_at j.station k)
    one_more j g =
        fate-next k (slot_at s k) c p
        (false-unless _
        (λ e.
        ⊎_elim g.later (λ f. true≢false (sym g.goes ∙ f)) (told-true (ends-exactly h.sized h.sound c p k low) e).why))
        (tells (adds-exactly h.sized h.sound c p k low) (record { undamaged = g.undamaged; later = g.later; file = g.file; goes = g.goes }))
        ∙ ap Still (sym g.slot)

    step-turn : Step c s store p k (judged c s store p) → Turn s store (packet c p) k (judged c s store p)
    unfolding noted_by
    step-turn (same u q) = stays u (quiet q) (λ g. noted_of k (data_of p) g (judged c s store p).events q ∙ noted-none k (data_of p) g)
    step-turn (ended e x b q) = leaves (over e) x (inl (among-six e (among_in k q (Memᴰ.head refl))))
    step-turn (begun u st f o q) =
        opens refl u st (λ e. absurd (true≢false (sym e ∙ f))) o (among_in k q (Memᴰ.head refl))
        (λ g. noted_of k (data_of p) g (judged c s store p).events q ∙ noted-open k (data_of p) g (packet_of p))
    step-turn (begun-over e st o q) =
        opens refl e.undamaged st (λ i. (over e, inl (among-six e (among_in k q (Memᴰ.head refl))))) o
        (among_in k q (Memᴰ.tail (Memᴰ.head refl)))
        (λ g. noted_of k (data_of p) g (judged c s store p).events q ∙ noted-over k (data_of p) g (packet_of p).application.0 (packet_of p))
    step-turn (gone-on g q) =
        goes refl g (one_more (judged c s store p) g)
        (λ r. noted_of k (data_of p) r (judged c s store p).events q ∙ noted-next k (data_of p) r (packet_of p).application.0 (packet_of p))

  -- THE law of a slot and a thing
  pub turn : (t : Thing) → Turn s store t k (did s store t)
  unfolding did noted_by fate
  turn (packet c p) = step-turn c p (judged-slot c s store p h.sized h.sound h.stored k)
  turn (left i d) = stays (record { slot = refl; blocks = refl; octets = λ n l. refl }) refl (λ q. refl)
  turn (gone j) =
      let r = let_go-refiles s j in
      elim (ℕ_discrete j k) [
        | yes e ↦
            leaves (if-true Ended _ (eq-eqb j k e)) (rw e (refiled-slot (let_go-refiles s k) h.sized low)) (inr (ap gone e))
        | no f ↦
            stays (record { slot = refiled-slots r k (λ e. f (sym e)); blocks = r.others k (λ e. f (sym e)); octets = λ n l. refl })
            (if-false Ended _ (ne_eqb j k f))
            (λ q. if-false [] q (ne_eqb j k f))
      ]
