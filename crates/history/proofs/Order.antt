-- The packets that went on with a file, in order; and when a file is complete. Assumes nothing.
use Rattle.std.specs.Prelude.{if◌then◌else◌}
use mathlib.Core.Path.{◌≡◌, refl, sym, ap, ◌∙◌}
use mathlib.Core.Bool.{Bool, true, false, not, ◌&&◌}
use mathlib.Core.List.{List, [], ◌∷◌}
use Prim.Native.Nat.{ℕ, ◌+◌}
use native.Mathlib.Omega.{arith}
use borrow.Author.Tests.{not-true, leb-true, eq-eqb}
use lib.Dec.{leb, eqb}
use lib.ListN.{length}
use Rattle.octets.proofs.Lists.{if-true, if-false}
use Rattle.octets.proofs.Decide.{told-false}
use Rattle.frame.specs.declared.Channel.{Channel}
use Rattle.packet.specs.Header.{packet_of}
use Rattle.state.specs.declared.Slot.{Slot}
use Rattle.state.specs.declared.Station.{Station}
use Rattle.state.specs.Slots.{slot_at, complete, incomplete, need_of, of_pair}
use Rattle.octets.proofs.Tests.{and_left, and_right, and_both}
use Rattle.room.proofs.Find.{same-pair}
use Rattle.room.proofs.Keeps.{accepted-held}
use Rattle.judge.specs.Judge.{data_of, first_slot, next_slot, starts_file, goes_on, is_intact}
use Rattle.judge.proofs.Parts.{goes-following}
use Rattle.history.specs.Run.{Call, run, Start, fresh}
use Rattle.history.specs.Things.{Thing}
use Rattle.history.specs.Things.Thing.{packet, left, gone}
use Rattle.history.specs.Follow.{concerns, ends, adds, Fate, fate, follow, added_by, added}
use Rattle.history.specs.Follow.Fate.{Still, Ended}
use Rattle.history.specs.Files.{Came, packets_of, CompleteExactly, GoesOnWith, InOrder, PacketsRight}
use Rattle.history.proofs.Turns.{starts-exactly}
use Rattle.history.proofs.Follows.{follow-on, follow-over, complete-held, came, held-exactly}

pub never-still : {y : Slot} → Ended ≡ Still y → ⊥
never-still e =
    let z : ◌≡◌ {A = ℕ} 0 1 = cc in
    omega arith

pub still-same : {x y : Slot} → Still x ≡ Still y → x ≡ y
still-same e = cc

module _ (k : ℕ) (x : Slot) (t : Thing) (ts : List Thing) where
  pub added-on : {y : Slot} → fate k x t ≡ Still y → added k x (t ∷ ts) ≡ added_by x t (added k y ts)
  unfolding added
  added-on e = ap (λ (f : Fate). elim f [ Still z ↦ added_by x t (added k z ts) | Ended ↦ [] ]) e

-- a packet that is added is of the file's channel, and goes on with the file
adds-goes : (x : Slot) (c : Channel) (p : List ℕ) → adds x c p ≡ true → (packet c p ≡ packet x.channel p) × GoesOnWith x p
unfolding adds concerns
adds-goes x c p e =
    let a = (packet_of p).application in
    let st = starts_file (packet_of p) in
    let on = goes_on x (packet_of p) (data_of p) in
    let check = is_intact p in
    let file = leb a.0 2015 in
    let here = concerns x c p in
    let first = and_left (here && not st) on e in
    let about = and_left here (not st) first in
    let of-file = and_left (incomplete x && of_pair c a x && file) check about in
    let later = told-false (starts-exactly p) (not-true st (and_right here (not st) first)) in
    let pair = same-pair c a x (and_right (incomplete x) (of_pair c a x) (and_left (incomplete x && of_pair c a x) file of-file)) in
    let own : c ≡ x.channel = λ i. record { 0 = sym pair.0 i } in (
      ap (λ (d : Channel). packet d p) own,
      record {
        application = sym pair.1;
        intact =
            record {
              file = leb-true a.0 2015 (and_right (incomplete x && of_pair c a x) file of-file);
              intact = and_right (incomplete x && of_pair c a x && file) check about;
            };
        later = later;
        following = goes-following x (packet_of p) (data_of p) later (and_right (here && not st) on e);
      },
    )

-- what a thing that does not end the file does to it: nothing, or it is the next packet
pub data Next (x : Slot) (t : Thing) (z : Slot) : Type 0 where
  none : z ≡ x → ((ps : List (List ℕ)) → added_by x t ps ≡ ps) → Next x t z
  one : {p : List ℕ} → t ≡ packet x.channel p → GoesOnWith x p → z ≡ next_slot x (packet_of p)
      → ((ps : List (List ℕ)) → added_by x t ps ≡ p ∷ ps) → Next x t z

packet-next : (x : Slot) (c : Channel) (p : List ℕ) (z : Slot) (e a : Bool) → adds x c p ≡ a
    → ◌≡◌ {A = Fate} (if e then Ended else Still (if a then next_slot x (packet_of p) else x)) (Still z) → Next x (packet c p) z
packet-next x c p z true a f q = absurd (never-still q)
packet-next x c p z false true f q =
    let (own, g) = adds-goes x c p f in
    one own g (sym (still-same q)) (λ ps. if-true (p ∷ ps) ps f)
packet-next x c p z false false f q = none (sym (still-same q)) (λ ps. if-false (p ∷ ps) ps f)

gone-next : (x : Slot) (j : ℕ) (z : Slot) (b : Bool) → ◌≡◌ {A = Fate} (if b then Ended else Still x) (Still z) → Next x (gone j) z
gone-next x j z true q = absurd (never-still q)
gone-next x j z false q = none (sym (still-same q)) (λ ps. refl)

pub next-as : (k : ℕ) (x : Slot) (t : Thing) (z : Slot) → fate k x t ≡ Still z → Next x t z
unfolding fate
next-as k x (packet c p) z q = packet-next x c p z (ends x c p) (adds x c p) refl q
next-as k x (left i d) z q = none (sym (still-same q)) (λ ps. refl)
next-as k x (gone j) z q = gone-next x j z (eqb j k) q

-- in order, and as many as the slot counts
abbrev Ordered : Slot → List (List ℕ) → Slot → Type 0
Ordered x ps y = InOrder x ps y × (x.accepted + length ps ≡ y.accepted)

ordered-next : {x z : Slot} {t : Thing} (y : Slot) (ps : List (List ℕ)) → Next x t z → Ordered z ps y → Ordered x (added_by x t ps) y
ordered-next y ps (none e f) o = rw (f ps) (rw e at o)
ordered-next {x} {z} y ps (one {p} own g e f) o =
    let more : z.accepted ≡ x.accepted + 1 = ap (λ (v : Slot). v.accepted) e in
    rw (f ps) ((g, rw e at o.0), omega (arith, o.1))

pub ordered : (k : ℕ) (x y : Slot) (ts : List Thing) → follow k x ts ≡ Still y → Ordered x (added k x ts) y
unfolding follow added
ordered k x y [] q =
    let e = still-same q in
    (e, omega (arith, ap (λ (v : Slot). v.accepted) e))
ordered k x y (t ∷ ts) q = by (fate k x t) refl (λ z. ordered k z y ts)
  where
    by : (f : Fate) → fate k x t ≡ f → ((z : Slot) → follow k z ts ≡ Still y → Ordered z (added k z ts) y) → Ordered x (added k x (t ∷ ts)) y
    by (Still z) e rest =
        rw (added-on k x t ts e) (ordered-next y (added k z ts) (next-as k x t z e) (rest z (sym (follow-on k x t ts e) ∙ q)))
    by Ended e rest = absurd (never-still (sym (follow-over k x t ts e) ∙ q))

module _ {s : Station} {store : List ℕ} {ts : List Thing} {k : ℕ} {y : Slot} (m : Came s store ts k y) where
  pub packets-right : PacketsRight m
  packets-right =
      let o = ordered k (first_slot m.channel (packet_of m.first) m.file) y m.later m.followed in
      record { in_order = o.0; count = omega (arith, o.1) }

  all_there : length (packets_of m) ≡ need_of y → complete y ≡ true
  unfolding complete
  all_there e =
      let n = packets-right.count in
      and_both (accepted-held y (omega (arith, n))) (eq-eqb y.accepted (need_of y) (sym n ∙ e))

-- "A file is complete exactly when it was opened and all its packets then came intact, in order, with nothing ending it by the paper's
-- rules."
pub complete-exactly : (x : Start) (cs : List Call) → CompleteExactly x cs
complete-exactly x cs k low = (
  λ e.
      let y = slot_at (run (fresh x) cs).station k in
      let m = came x cs k low (complete-held y e).0 in
      (y, m, (packets-right m).count ∙ (complete-held y e).1),
  λ (y, m, e). ap complete ((held-exactly x cs k low y (complete-held y (all_there m e)).0).1 m) ∙ all_there m e,
)
