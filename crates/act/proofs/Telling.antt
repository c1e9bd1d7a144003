-- How the promise of a function follows from the calls that it makes. Assumes nothing.
use Rattle.std.specs.Prelude.{if◌then◌else◌}
use mathlib.Core.Path.{◌≡◌, refl, ap, ◌∙◌}
use mathlib.Core.List.{List, [], ◌∷◌, flat_map}
use Prim.Native.Nat.{ℕ, suc, ◌+◌, ◌*◌, ◌≤◌, ◌<◌}
use native.Mathlib.Omega.{arith}
use borrow.Author.Tests.{eq-eqb, ne_eqb}
use lib.Dec.{eqb}
use lib.ListN.{length, get_or, set, take}
use Rattle.octets.specs.Buffer.{put}
use Rattle.octets.proofs.Put.{length-put}
use Rattle.events.specs.Event.{Event, of, at, flat}
use Rattle.events.proofs.Flat.{flat-behind}
use Rattle.frame.specs.declared.Channel.{Channel}
use Rattle.packet.specs.declared.Packet.{Packet}
use Rattle.transport.specs.declared.Transport.{Transport}
use Rattle.state.specs.declared.Head.{Head}
use Rattle.state.specs.declared.Slot.{Slot}
use Rattle.state.specs.declared.Station.{Station}
use Rattle.state.specs.Slots.{no_file, station_of}
use Rattle.state.specs.Blocks.{numbers_of, blocks_of}
use Rattle.state.specs.Sound.{Sized}
use Rattle.room.specs.Move.{opened, let_go}
use Rattle.room.proofs.Keeps.{let_go-refiles, let_go-sound}
use Rattle.judge.specs.declared.Place.{Place}
use Rattle.judge.specs.declared.Place.TheVariants.{Denied, Granted}
use Rattle.judge.specs.declared.Act.TheVariants.{Opens, Over, GoesOn, Ends}
use Rattle.judge.specs.Judge.{Judged, gives, after, written, first_slot, next_slot, next_kind, opens}
use Rattle.judge.specs.Ruling.{placed_as, acted}
use Rattle.judge.specs.Contract.{Ready, Tells}
use Rattle.judge.proofs.Keeps.{stays-refiled}
use Rattle.judge.proofs.Flat.{tells-after}

-- room for some events is room for fewer
pub ready-less : {s : Station} {store list : List ℕ} {n m : ℕ} → Ready s store list n m → (i : ℕ) → i ≤ m → Ready s store list n i
ready-less r i l = record { sound = r.sound; owners = r.owners; blocks = r.blocks; enough = omega (arith, r.enough) }

-- the file of slot k was let go, and its event told
pub ready-gone : {s t : Station} {store list₀ list : List ℕ} {n m : ℕ} (k i : ℕ) (es : List ℕ) → Sized s → k < 32 → Ready s store list₀ n (i + 1)
    → t ≡ let_go s k → m ≡ n + 1 → list ≡ put list₀ (3 * n) es → Ready t store list m i
ready-gone {s} {list₀} {n} k i es z low r o e f =
    let stays = stays-refiled (let_go-refiles s k) in
    record {
      sound = rw o (let_go-sound z r.sound low);
      owners = rw o (stays.owners ∙ r.owners);
      blocks = rw (o, stays.blocks) r.blocks;
      enough = omega (arith, r.enough, ap length f, length-put list₀ (3 * n) es);
    }

-- one event, and then what comes of the rest
pub tells-then : (x : Event) {j : Judged} {n m k : ℕ} {list₀ list₁ list store : List ℕ} {t : Station} → m ≡ n + 1
    → list₁ ≡ put list₀ (3 * n) (x.kind ∷ x.application ∷ x.slot ∷ []) → Tells j m list₁ t k store list → Tells (after (x ∷ []) j) n list₀ t k store list
unfolding flat flat_map
tells-then x e f t = tells-after (x ∷ []) (rw (e, f) at t)

-- the events of a file that is opened
abbrev opening : ℕ → ℕ → ℕ → List Event
opening flags a k = at 10 a k ∷ (if eqb flags 3 then at 12 a k ∷ [] else [])

module _ (flags a k n : ℕ) (list₀ : List ℕ) {m : ℕ} {list₁ : List ℕ} (e : m ≡ n + 1) (f : list₁ ≡ put list₀ (3 * n) (10 ∷ a ∷ k ∷ [])) where
  pub told-first : (flags ≡ 3 → ⊥) → (m ≡ n + length (opening flags a k)) × (list₁ ≡ put list₀ (3 * n) (flat (opening flags a k)))
  unfolding flat flat_map
  told-first g = rw (ne_eqb flags 3 g) (e, f)

  pub told-whole : flags ≡ 3 → {i : ℕ} {list : List ℕ} → i ≡ m + 1 → list ≡ put list₁ (3 * m) (12 ∷ a ∷ k ∷ [])
      → (i ≡ n + length (opening flags a k)) × (list ≡ put list₀ (3 * n) (flat (opening flags a k)))
  unfolding flat flat_map
  told-whole g e' f' = rw (eq-eqb flags 3 g) (omega (arith, e, e'), f' ∙ rw (f, e) (flat-behind (at 10 a k ∷ []) (at 12 a k ∷ []) list₀ n))

-- the file was opened, its first packet written, and its events told
pub tells-opens : (c : Channel) (s : Station) (h : Packet) (d : List ℕ) (k : ℕ) (x : Transport) (store : List ℕ) {n m : ℕ} {list₀ list now : List ℕ}
    {t : Station} → t ≡ opened s k (first_slot c h x) → now ≡ put store (8190 * get_or (blocks_of t k) 0 0) d
    → (m ≡ n + length (opening h.flags h.application.0 k)) × (list ≡ put list₀ (3 * n) (flat (opening h.flags h.application.0 k)))
    → Tells (opens c s store h d k x) n list₀ t m now list
unfolding opens written
tells-opens c s h d k x store o w e = record { station = o; events = e.0; wrote = rw (← o) w; listed = e.1 }

-- the packet was written, counted and told
pub tells-goes-on : (c : Channel) (head : Head) (owner : List ℕ) (slots : List Slot) (store : List ℕ) (h : Packet) (d : List ℕ) (k : ℕ) {n m : ℕ}
    {list₀ list now : List ℕ} {after : List Slot} → after ≡ set slots k (next_slot (get_or slots k no_file) h)
    → now ≡ put store (8190 * get_or (numbers_of (suc k) 0 (take head.blocks owner)) (get_or slots k no_file).accepted 0) d
    → (m ≡ n + 1) × (list ≡ put list₀ (3 * n) (next_kind h ∷ h.application.0 ∷ k ∷ []))
    → Tells (acted c (station_of head owner slots) store h d (GoesOn k)) n list₀ (station_of head owner after) m now list
unfolding acted written flat flat_map
tells-goes-on c head owner slots store h d k o w e =
    record { station = ap (station_of head owner) o; events = e.0; wrote = w; listed = e.1 }

-- the calls' promises, as the cases of the definitions have them
module _ (c : Channel) (s : Station) (store : List ℕ) (h : Packet) (d : List ℕ) where
  pub act-opens : (k : ℕ) (t : Transport) → acted c s store h d (Opens k t) ≡ opens c s store h d k t
  unfolding acted
  act-opens k t = refl

  module _ (k : ℕ) {p : Place} {t : Station} (o : t ≡ let_go s k) where
    pub over-denied : {n : ℕ} → p ≡ Denied n → acted c s store h d (Over k p) ≡ after (at 6 h.application.0 k ∷ []) (gives t store (of n h.application.0 ∷ []))
    unfolding acted placed_as
    over-denied e = rw (e, o)

    pub over-granted : {j : ℕ} {x : Transport} → p ≡ Granted j x → acted c s store h d (Over k p) ≡ after (at 6 h.application.0 k ∷ []) (opens c t store h d j x)
    unfolding acted placed_as
    over-granted e = rw (e, o)

  pub act-ends : (k : ℕ) {t : Station} → t ≡ let_go s k → acted c s store h d (Ends k) ≡ gives t store (at 6 h.application.0 k ∷ [])
  unfolding acted
  act-ends k o = rw o
