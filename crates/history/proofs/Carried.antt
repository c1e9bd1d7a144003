-- A file's page is the data of its first packet and of those that went on with it. Assumes nothing.
use mathlib.Core.Path.{◌≡◌, refl, sym, ap, ap₂, subst, ◌∙◌}
use mathlib.Core.Bool.{Bool, true, ◌&&◌, ◌||◌, or-true}
use mathlib.Core.Logic.{⊎_elim}
use mathlib.Core.List.Memᴰ
use mathlib.Core.List.{List, [], ◌∷◌, ◌++◌, map, append-nil, append_assoc}
use Prim.Native.Nat.{ℕ, ◌+◌, ◌/◌, ◌%◌, ◌≤◌, ◌<◌}
use native.Mathlib.Omega.{arith}
use borrow.Author.Tests.{eq-eqb}
use lib.Dec.{eqb}
use lib.ListN.{length, get_or, get_or-map}
use Rattle.octets.proofs.Lists.{part_at, if-true}
use Rattle.octets.proofs.Decide.{tells}
use Rattle.packet.specs.Header.{packet_of}
use Rattle.transport.specs.Length.{octets_of_bits}
use Rattle.state.specs.declared.Slot.{Slot}
use Rattle.state.specs.declared.Station.{Station}
use Rattle.state.specs.Slots.{slot_at, held, complete}
use Rattle.room.proofs.Keeps.{accepted-held}
use Rattle.events.specs.Event.{Among, Event, at}
use Rattle.judge.specs.Judge.{data_of, first_slot}
use Rattle.history.specs.Run.{World, Call, after, run, Start, fresh}
use Rattle.history.specs.Things.{Thing, did, did_all, things, all_things}
use Rattle.history.specs.Things.Thing.{packet}
use Rattle.history.specs.Follow.{adds, fate, follow, added_by, added}
use Rattle.history.specs.Follow.Fate.{Still}
use Rattle.history.specs.Ledger.{Page, Ledger, told, noted, noted_by, noted_all, ledger_after, ledger_run, no_pages}
use Rattle.history.specs.Files.{Came, packets_of, carried, PagesCame, NoStrip}
use Rattle.history.proofs.Sound.{fresh-sound}
use Rattle.history.proofs.Moments.{Settled, settled, AllRightly, did-settled, all_settled, rightly-rest, call-leaves, run-rightly}
use Rattle.history.proofs.Order.{never-still, added-on, Next, next-as}
use Rattle.history.proofs.Order.Next.{none, one}
use Rattle.history.proofs.Turns.{adds-exactly, Turn, turn}
use Rattle.history.proofs.Turns.Turn.{stays, goes, leaves, opens}
use Rattle.history.proofs.Follows.{follow-on, follow-over, opened-slot, complete-held, held-exactly}
use Rattle.history.proofs.Pages.{files-carried}

-- a thing that leaves the file as it was adds nothing to it
none-added : (x : Slot) (t : Thing) (ps : List (List ℕ)) → Next x t x → added_by x t ps ≡ ps
none-added x t ps (none e f) = f ps
none-added x t ps (one own g e f) =
    let more : x.accepted ≡ x.accepted + 1 = ap (λ (y : Slot). y.accepted) e in
    absurd (omega arith)

adds_none : (k : ℕ) (x : Slot) (t : Thing) (ps : List (List ℕ)) → fate k x t ≡ Still x → added_by x t ps ≡ ps
adds_none k x t ps e = none-added x t ps (next-as k x t x e)

-- along the things that follow
pages-follow : {s : Station} {store : List ℕ} (ts : List Thing) → Settled s store → AllRightly s store ts → (k : ℕ) → k < 32 → held (slot_at s k) ≡ true
    → (l : Ledger) (y : Slot) → follow k (slot_at s k) ts ≡ Still y
    → noted_all s store ts l k ≡ l k ++ map data_of (added k (slot_at s k) ts)
unfolding noted_all added
pages-follow [] h r k low e l y q = sym (append-nil (l k))
pages-follow {s} {store} (t ∷ ts) h r k low e l y q =
    by (turn h k low t) (λ e' q'. pages-follow {s = (did s store t).station} {store = (did s store t).store} ts (did-settled t h r.0) r.1 k low e' (λ i. noted_by i t (did s store t).events (l i)) y q')
  where
    by : Turn s store t k (did s store t)
        → (held (slot_at (did s store t).station k) ≡ true → follow k (slot_at (did s store t).station k) ts ≡ Still y
        → noted_all (did s store t).station (did s store t).store ts (λ i. noted_by i t (did s store t).events (l i)) k
        ≡ noted_by k t (did s store t).events (l k) ++ map data_of (added k (slot_at (did s store t).station k) ts))
        → noted_all s store (t ∷ ts) l k ≡ l k ++ map data_of (added k (slot_at s k) (t ∷ ts))
    by (stays u f n) rest =
        rest (ap held u.slot ∙ e) (ap (λ (z : Slot). follow k z ts) u.slot ∙ sym (follow-on k (slot_at s k) t ts f) ∙ q)
        ∙ ap₂ (λ (a : Page) (z : Slot). a ++ map data_of (added k z ts)) (n (l k)) u.slot
        ∙ ap (λ (ps : List (List ℕ)). l k ++ map data_of ps) (sym (added-on k (slot_at s k) t ts f ∙ adds_none k (slot_at s k) t _ f))
    by (goes {c} {p} a g f n) rest =
        let z = slot_at (did s store t).station k in
        let more : z.accepted ≡ (slot_at s k).accepted + 1 = ap (λ (v : Slot). v.accepted) g.slot in
        let yes : adds (slot_at s k) c p ≡ true =
        tells (adds-exactly h.sized h.sound c p k low) (record { undamaged = g.undamaged; later = g.later; file = g.file; goes = g.goes }) in
        rest (accepted-held z (omega arith)) (sym (follow-on k (slot_at s k) t ts f) ∙ q)
        ∙ ap (λ (b : Page). b ++ map data_of (added k z ts)) (n (l k))
        ∙ append_assoc (l k) (data_of p ∷ []) (map data_of (added k z ts))
        ∙ ap (λ (ps : List (List ℕ)). l k ++ map data_of ps)
        (sym
        (added-on k (slot_at s k) t ts f ∙ ap (λ (i : Thing). added_by (slot_at s k) i (added k z ts)) a ∙ if-true (p ∷ added k z ts) (added k z ts) yes))
    by (leaves f n why) rest = absurd (never-still (sym (follow-over k (slot_at s k) t ts f) ∙ q))
    by (opens a u st why o m n) rest = absurd (never-still (sym (follow-over k (slot_at s k) t ts (why e).0) ∙ q))

-- event 10 begins the page
told-among : (n k a : ℕ) (es : List Event) → Among (at n a k) es → told n k es ≡ true
unfolding told
told-among n k a [] m = absurd (Memᴰ.not-nil m)
told-among n k a (e ∷ es) m =
    ⊎_elim
    (λ q.
    ap (λ (b : Bool). b || told n k es)
    (ap (λ (v : Event). eqb v.kind n && eqb v.slot k) (sym q) ∙ ap₂ ◌&&◌ (eq-eqb n n refl) (eq-eqb k k refl)))
    (λ i. ap (λ (b : Bool). eqb e.kind n && eqb e.slot k || b) (told-among n k a es i) ∙ or-true (eqb e.kind n && eqb e.slot k))
    (Memᴰ.cases_cons m)

page-begins : (k a : ℕ) (d : List ℕ) (es : List Event) (q : Page) → Among (at 10 a k) es → noted k d es q ≡ d ∷ []
unfolding noted
page-begins k a d es q m = if-true (d ∷ []) _ (told-among 10 k a es m)

noted-append : (s : Station) (store : List ℕ) (ts us : List Thing) (l : Ledger)
    → noted_all s store (ts ++ us) l ≡ noted_all (did_all s store ts).station (did_all s store ts).store us (noted_all s store ts l)
unfolding noted_all did_all
noted-append s store [] us l = refl
noted-append s store (t ∷ ts) us l =
    noted-append (did s store t).station (did s store t).store ts us (λ k. noted_by k t (did s store t).events (l k))

-- a file that came about
pub came-page : (s : Station) (store : List ℕ) (ts : List Thing) → Settled s store → AllRightly s store ts → (k : ℕ) → k < 32 → (y : Slot)
    → (m : Came s store ts k y) → (l : Ledger)
    → noted_all s store ts l k ≡ map data_of (m.first ∷ added k (first_slot m.channel (packet_of m.first) m.file) m.later)
unfolding did did_all noted_all noted_by
came-page s store ts h r k low y m l =
    let first = packet m.channel m.first in
    let (r₀, r₁) = rightly-rest s store m.before (first ∷ m.later) (subst (AllRightly s store) m.split r) in
    let b = did_all s store m.before in
    let h₀ = all_settled m.before h r₀ in
    let j = did b.station b.store first in
    let slot : slot_at j.station k ≡ first_slot m.channel (packet_of m.first) m.file =
    opened-slot h₀ k m.channel m.first m.opened m.starts.right in
    let one : (slot_at j.station k).accepted ≡ 1 = ap (λ (z : Slot). z.accepted) slot in
    let l₀ = noted_all s store m.before l in
    ap (λ (us : List Thing). noted_all s store us l k) m.split
    ∙ ap (λ (a : Ledger). a k) (noted-append s store m.before (first ∷ m.later) l)
    ∙ pages-follow m.later (did-settled first h₀ r₁.0) r₁.1 k low (accepted-held (slot_at j.station k) (omega arith))
    (λ i. noted_by i first j.events (l₀ i)) y (ap (λ (z : Slot). follow k z m.later) slot ∙ m.followed)
    ∙ ap₂ (λ (a : Page) (z : Slot). a ++ map data_of (added k z m.later))
    (page-begins k (packet_of m.first).application.0 (data_of m.first) j.events (l₀ k) m.opened) slot

-- along a run
ledger-things : (w : World) (cs : List Call) (l : Ledger) → ledger_run w cs l ≡ noted_all w.station w.store (all_things w cs) l
unfolding ledger_run noted_all all_things
ledger-things w [] l = refl
ledger-things w (c ∷ cs) l =
    let v = call-leaves w c in
    let us = all_things (after w c) cs in
    let a = ledger_after w c l in
    ledger-things (after w c) cs a ∙ ap₂ (λ (s : Station) (m : List ℕ). noted_all s m us a) (sym v.station) (sym v.store)
    ∙ sym (noted-append w.station w.store (things w c) us l)

pub pages-came : (x : Start) (cs : List Call) → PagesCame x cs
pages-came x cs k low y m =
    let w = fresh x in
    ap (λ (a : Ledger). a k) (ledger-things w cs no_pages)
    ∙ came-page w.station w.store (all_things w cs) (settled (fresh-sound x)) (run-rightly (fresh-sound x) cs) k low y m no_pages

-- octet by octet
data-at : (ps : List (List ℕ)) (i : ℕ) → get_or (map data_of ps) i [] ≡ data_of (get_or ps i [])
data-at ps i = get_or-map data_of ps i []

pub no-strip : (x : Start) (cs : List Call) → NoStrip x cs
no-strip x cs k low y m done offset buffer fits i l =
    let w = run (fresh x) cs in
    let page = ledger_run (fresh x) cs no_pages k in
    let slot : slot_at w.station k ≡ y = (held-exactly x cs k low y (complete-held y done).0).1 m in
    let file = files-carried x cs k low (ap complete slot ∙ done) in
    let n = 10 + (offset + i) in
    let inside : offset + length buffer ≤ octets_of_bits (slot_at w.station k).bits = rw slot fits in
    ap (λ (r : List ℕ). get_or r i 0) (file.read-part offset buffer inside).1
    ∙ part_at (carried page) offset (length buffer) i 0 l
    ∙ ap (λ (r : List ℕ). get_or r (offset + i) 0) (sym file.octets)
    ∙ file.octet (offset + i) (omega arith)
    ∙ ap (λ (q : Page). get_or (get_or q (n / 8190) []) (n % 8190) 0) (pages-came x cs k low y m)
    ∙ ap (λ (d : List ℕ). get_or d (n % 8190) 0) (data-at (packets_of m) (n / 8190))
