-- What the moves do, and that they keep the state sound: a file opened, a file let go, a file with its next packet. Assumes nothing.
use Rattle.std.specs.Prelude.{Option, Some, None}
use mathlib.Core.Path.{◌≡◌, refl, sym, ap, ◌∙◌}
use mathlib.Core.Bool.{Bool, true, false, true≢false}
use mathlib.Core.List.{List, [], ◌∷◌}
use Prim.Native.Nat.{ℕ, suc, ◌+◌, ◌-◌, ◌≤◌, ◌<◌}
use native.Mathlib.Decide.{ℕ_discrete}
use native.Mathlib.Omega.{arith}
use borrow.Author.Tests.{ne_eqb}
use lib.ListN.{length, get_or, take, drop, length-set, length-drop}
use lib.Seq.{length-take-le, get_or-set_same, get_or-set_other}
use Rattle.frame.specs.declared.Channel.{Channel}
use Rattle.packet.specs.declared.Application.{Application}
use Rattle.transport.specs.Length.{good_length}
use Rattle.state.specs.declared.Slot.{Slot}
use Rattle.state.specs.declared.Station.{Station}
use Rattle.state.specs.Slots.{no_file, slot_at, held, need_of, incomplete, named}
use Rattle.state.specs.Blocks.{numbers_of, table, free_blocks, blocks_of, room}
use Rattle.state.specs.Sound.{Sized, SetUp, HeldSlot, Sound, DesksSound}
use Rattle.state.proofs.Blocks.{entry-low, entry_here, rank-low}
use Rattle.state.proofs.Exactly.{table-length, held-accepted, owner-held, free-owns-none}
use Rattle.state.proofs.Places.{free-room}
use Rattle.room.specs.Find.{file_of}
use Rattle.room.specs.Move.{given, with_file, opened, let_go}
use Rattle.room.proofs.Given.{
  length-given,
  AllBelow,
  take-given,
  drop-given,
  numbers-below,
  below-take,
  moved,
  moved-from,
  moved_to,
  moved_other,
  given-all-other,
  given-all-from,
  given-all-count,
}
use Rattle.room.proofs.Find.{file-at, file-nowhere, file-only, pair_same}

-- a file that a slot may hold: what soundness asks of it, its places apart
pub record Fit (s : Station) (x : Slot) : Type 0 where
  pub some : 1 ≤ x.accepted
  pub accepted : x.accepted ≤ need_of x
  pub watched : (i : ℕ) × (i < s.channels) × (get_or (named s) i 0 ≡ x.channel.0)
  pub application : x.application.0 ≤ 2015
  pub bits : good_length x.bits ≡ true
  pub count : x.count.0 < 16384

pub accepted-held : (x : Slot) → 1 ≤ x.accepted → held x ≡ true
unfolding held
accepted-held x h = rw (ne_eqb x.accepted 0 (λ e. omega arith))

-- t is s with the file x in slot k; of all else only the owners may differ, not past the store's blocks, and no other slot's blocks do
pub record Refiled (s : Station) (k : ℕ) (x : Slot) (t : Station) : Type 0 where
  pub frame : t ≡ with_file s t.owner k x
  pub long : length t.owner ≡ length s.owner
  pub past : drop s.blocks t.owner ≡ drop s.blocks s.owner
  pub others : (j : ℕ) → (j ≡ k → ⊥) → blocks_of t j ≡ blocks_of s j

module _ {s t : Station} {k : ℕ} {x : Slot} (r : Refiled s k x t) where
  pub refiled-slot : Sized s → k < 32 → slot_at t k ≡ x
  refiled-slot z low = ap (λ (u : Station). slot_at u k) r.frame ∙ get_or-set_same s.slots k x no_file (omega (arith, z.slots))

  pub refiled-slots : (j : ℕ) → (j ≡ k → ⊥) → slot_at t j ≡ slot_at s j
  refiled-slots j f = ap (λ (u : Station). slot_at u j) r.frame ∙ get_or-set_other s.slots k j x no_file f

  pub refiled-sized : Sized s → Sized t
  refiled-sized z =
      rw r.frame
      (record { watched = z.watched; desks = z.desks; owner = r.long ∙ z.owner; slots = length-set s.slots k x ∙ z.slots })

  pub refiled-set_up : SetUp s → SetUp t
  refiled-set_up u =
      rw r.frame (record { some = u.some; few = u.few; low = u.low; distinct = u.distinct; store = u.store; least = u.least })

  pub refiled-desks : (desks : List ℕ) → DesksSound s desks → DesksSound t desks
  refiled-desks desks d = rw r.frame (record { octets = d.octets })

  pub refiled-fit : {y : Slot} → Fit s y → Fit t y
  refiled-fit f =
      rw r.frame
      (record {
        some = f.some;
        accepted = f.accepted;
        watched = f.watched;
        application = f.application;
        bits = f.bits;
        count = f.count;
      })

-- a slot as soundness wants it, with n places: it has a file, or nothing
data Proper (s : Station) (x : Slot) (n : ℕ) : Type 0 where
  file : Fit s x → n ≡ need_of x → Proper s x n
  none : x ≡ no_file → n ≡ 0 → Proper s x n

none_free : (x : Slot) → x ≡ no_file → held x ≡ false
unfolding held
none_free x e = rw e

module _ {s : Station} {x : Slot} {n : ℕ} where
  proper-owns : Proper s x n → 0 < n → held x ≡ true
  proper-owns (file f p) h = accepted-held x f.some
  proper-owns (none q p) h = absurd (omega arith)

  proper-free : Proper s x n → held x ≡ false → x ≡ no_file
  proper-free (file f p) e = absurd (true≢false (sym (accepted-held x f.some) ∙ e))
  proper-free (none q p) e = q

  proper-kept : {t : Station} {k : ℕ} {y : Slot} → Refiled s k y t → Proper s x n → Proper t x n
  proper-kept r (file f p) = file (refiled-fit r f) p
  proper-kept r (none q p) = none q p

module _ {s : Station} (k : ℕ) where
  proper-held : Proper s (slot_at s k) (length (blocks_of s k)) → held (slot_at s k) ≡ true → HeldSlot s k
  proper-held (file f p) e =
      record { accepted = f.accepted; watched = f.watched; application = f.application; bits = f.bits; count = f.count; places = p }
  proper-held (none q p) e = absurd (true≢false (sym e ∙ none_free (slot_at s k) q))

  pub held-fit : Sound s → k < 32 → held (slot_at s k) ≡ true → Fit s (slot_at s k)
  held-fit h low e =
      let f = h.files k low e in
      record {
        some = held-accepted (slot_at s k) e;
        accepted = f.accepted;
        watched = f.watched;
        application = f.application;
        bits = f.bits;
        count = f.count;
      }

  proper-at : Sized s → Sound s → k < 32 → Proper s (slot_at s k) (length (blocks_of s k))
  proper-at z h low = go (held (slot_at s k)) refl
    where
      go : (b : Bool) → held (slot_at s k) ≡ b → Proper s (slot_at s k) (length (blocks_of s k))
      go true e = file (held-fit h low e) (h.files k low e).places
      go false e = none (h.free k low e) (free-owns-none s z h k e)

  owns : Sized s → Sound s → 0 < length (blocks_of s k) → (k < 32) × (held (slot_at s k) ≡ true)
  owns z h p =
      let low = entry-low (suc k) (table s) 0 p in
      let l = table-length z h.set_up.least in
      owner-held h (get_or (blocks_of s k) 0 0) k (omega arith) (entry_here (suc k) (table s) 0 p)

-- two incomplete files of one pair
record Twins (x y : Slot) : Type 0 where
  one : incomplete x ≡ true
  two : incomplete y ≡ true
  channel : x.channel.0 ≡ y.channel.0
  application : x.application.0 ≡ y.application.0

swapped : {x y : Slot} → Twins x y → Twins y x
swapped w = record { one = w.two; two = w.one; channel = sym w.channel; application = sym w.application }

-- a proper file in slot k that is no other's twin keeps the state sound, as all else is as it was
module _ {s t : Station} (z : Sized s) (h : Sound s) {k : ℕ} {x : Slot} (low : k < 32) (r : Refiled s k x t)
    (proper : Proper s x (length (blocks_of t k))) (alone : (j : ℕ) → j < 32 → (j ≡ k → ⊥) → Twins (slot_at s j) x → ⊥) where
  here : (j : ℕ) → j ≡ k → slot_at t j ≡ x
  here j e = ap (slot_at t) e ∙ refiled-slot r z low

  proper-slots : (j : ℕ) → j < 32 → Proper t (slot_at t j) (length (blocks_of t j))
  proper-slots j l =
      elim (ℕ_discrete j k) [
        | yes e ↦ rw (here j e, e) (proper-kept r proper)
        | no f ↦ rw (refiled-slots r j f, r.others j f) (proper-kept r (proper-at j z h l))
      ]

  owners : (b j : ℕ) → b < t.blocks → get_or (table t) b 0 ≡ suc j → (j < 32) × (held (slot_at t j) ≡ true)
  owners b j l e =
      let n = table-length (refiled-sized r z) (refiled-set_up r h.set_up).least in
      let p : 0 < length (blocks_of t j) = omega (arith, rank-low (suc j) 0 (table t) b (omega arith) e) in
      elim (ℕ_discrete j k) [
        | yes q ↦ (omega arith, proper-owns (proper-slots j (omega arith)) p)
        | no f ↦ rw (refiled-slots r j f) (owns j z h (rw (r.others j f) at p))
      ]

  no-twins : (i j : ℕ) → i < 32 → j < 32 → Twins (slot_at t i) (slot_at t j) → i ≡ j
  no-twins i j l m w =
      elim (ℕ_discrete i k) [
        | yes e ↦
            elim (ℕ_discrete j k) [
              | yes f ↦ e ∙ sym f
              | no f ↦ absurd (alone j m f (swapped (rw (here i e, refiled-slots r j f) at w)))
            ]
        | no e ↦
            elim (ℕ_discrete j k) [
              | yes f ↦ absurd (alone i l e (rw (refiled-slots r i e, here j f) at w))
              | no f ↦
                  let v = rw (refiled-slots r i e, refiled-slots r j f) at w in
                  h.alone i j l m v.one v.two v.channel v.application
            ]
      ]

  keeps : Sound t
  keeps =
      record {
        set_up = refiled-set_up r h.set_up;
        blocks =
            λ b l f.
            let p = owners b (get_or (table t) b 0 - 1) l (omega arith) in
            (omega arith, p.1);
        files = λ j l e. proper-held j (proper-slots j l) e;
        alone = λ i j l m p q c a. no-twins i j l m (record { one = p; two = q; channel = c; application = a });
        free = λ j l e. proper-free (proper-slots j l) e;
        desks = rw r.frame h.desks;
      }

length-zero : {A : Type 0} (xs : List A) → length xs ≡ 0 → xs ≡ []
length-zero [] e = refl
length-zero (x ∷ xs) e = absurd (omega arith)

-- blocks of the store go to another owner
module _ (s : Station) (to : ℕ) (bs : List ℕ) (below : AllBelow s.blocks bs) where
  given-table : take s.blocks (given to bs s.owner) ≡ given to bs (table s)
  given-table = take-given s.blocks to bs s.owner below

  given-refiles : (k : ℕ) (x : Slot) → ((j : ℕ) → (j ≡ k → ⊥) → numbers_of (suc j) 0 (given to bs (table s)) ≡ blocks_of s j)
      → Refiled s k x (with_file s (given to bs s.owner) k x)
  given-refiles k x f =
      record {
        frame = refl;
        long = length-given to bs s.owner;
        past = drop-given s.blocks to bs s.owner below;
        others = λ j g. ap (numbers_of (suc j) 0) given-table ∙ f j g;
      }

-- a file opened in slot k
module _ (s : Station) (k : ℕ) (x : Slot) where
  lowest : AllBelow s.blocks (take (need_of x) (free_blocks s))
  lowest = below-take (need_of x) s.blocks (free_blocks s) (numbers-below 0 s.blocks s.owner)

  opened-table : table (opened s k x) ≡ moved 0 (suc k) (need_of x) (table s)
  unfolding opened
  opened-table = given-table s (suc k) (take (need_of x) (free_blocks s)) lowest

  pub opened-refiles : Refiled s k x (opened s k x)
  unfolding opened
  opened-refiles =
      given-refiles s (suc k) (take (need_of x) (free_blocks s)) lowest k x
      (λ j f. moved_other 0 (suc k) (need_of x) (table s) (suc j) (λ e. omega arith) (λ e. f (omega arith)))

  pub opened-free : free_blocks (opened s k x) ≡ drop (need_of x) (free_blocks s)
  opened-free = ap (numbers_of 0 0) opened-table ∙ moved-from {to = suc k} (λ e. omega arith) (need_of x) (table s)

  -- "the N lowest free blocks, in rising order": place i is the i-th of them
  module _ (z : Sized s) (h : Sound s) (free : held (slot_at s k) ≡ false) where
    pub opened-blocks : blocks_of (opened s k x) k ≡ take (need_of x) (free_blocks s)
    opened-blocks =
        ap (numbers_of (suc k) 0) opened-table
        ∙ moved_to {from = 0} {to = suc k} (λ e. omega arith) (need_of x) (table s) (length-zero (blocks_of s k) (free-owns-none s z h k free))

    pub opened-count : need_of x ≤ room s → length (blocks_of (opened s k x) k) ≡ need_of x
    opened-count fits = ap length opened-blocks ∙ length-take-le (need_of x) (free_blocks s) (omega (arith, free-room z h))

-- when a file can be opened
pub record Opening (s : Station) (k : ℕ) (x : Slot) : Type 0 where
  pub low : k < 32
  pub free : held (slot_at s k) ≡ false
  pub fit : Fit s x
  pub fits : need_of x ≤ room s
  pub alone : incomplete x ≡ true → file_of s x.channel x.application ≡ None

module _ {s : Station} (z : Sized s) (h : Sound s) {k : ℕ} {x : Slot} (o : Opening s k x) where
  pub opened-sound : Sound (opened s k x)
  opened-sound =
      keeps z h o.low (opened-refiles s k x) (file o.fit (opened-count s k x z h o.free o.fits))
      (λ j l f w.
      file-nowhere s x.channel x.application (o.alone w.two) j (omega (arith, z.slots)) w.one
      (pair_same x.channel x.application (slot_at s j) w.channel w.application))

  pub opened-room : room (opened s k x) ≡ room s - need_of x
  opened-room =
      sym (free-room (refiled-sized (opened-refiles s k x) z) opened-sound) ∙ ap length (opened-free s k x)
      ∙ length-drop (need_of x) (free_blocks s)
      ∙ ap (λ (n : ℕ). n - need_of x) (free-room z h)

-- the file of slot k let go
module _ (s : Station) (k : ℕ) where
  let_go-table : table (let_go s k) ≡ given 0 (blocks_of s k) (table s)
  unfolding let_go
  let_go-table = given-table s 0 (blocks_of s k) (numbers-below (suc k) s.blocks s.owner)

  pub let_go-refiles : Refiled s k no_file (let_go s k)
  unfolding let_go
  let_go-refiles =
      given-refiles s 0 (blocks_of s k) (numbers-below (suc k) s.blocks s.owner) k no_file
      (λ j f. given-all-other (suc k) 0 (table s) (suc j) (λ e. f (omega arith)) (λ e. omega arith))

  pub let_go-blocks : blocks_of (let_go s k) k ≡ []
  let_go-blocks = ap (numbers_of (suc k) 0) let_go-table ∙ given-all-from (suc k) 0 (table s) (λ e. omega arith)

  pub let_go-free : length (free_blocks (let_go s k)) ≡ length (free_blocks s) + length (blocks_of s k)
  let_go-free =
      ap (λ (t : List ℕ). length (numbers_of 0 0 t)) let_go-table ∙ given-all-count (suc k) 0 (table s) (λ e. omega arith)
      ∙ omega arith

none-complete : (x : Slot) → x ≡ no_file → incomplete x ≡ false
unfolding incomplete held
none-complete x e = rw e

module _ {s : Station} (z : Sized s) (h : Sound s) {k : ℕ} (low : k < 32) where
  pub let_go-sound : Sound (let_go s k)
  let_go-sound =
      keeps z h low (let_go-refiles s k) (none refl (ap length (let_go-blocks s k)))
      (λ j l f w. true≢false (sym w.two ∙ none-complete no_file refl))

  pub let_go-room : held (slot_at s k) ≡ true → room (let_go s k) ≡ room s + need_of (slot_at s k)
  let_go-room e =
      omega
      (arith, free-room (refiled-sized (let_go-refiles s k) z) let_go-sound, free-room z h, let_go-free s k, (h.files k low e).places)

  -- "an incomplete file of the pair is abandoned": then the pair has none
  pub let_go-alone : (c : Channel) (a : Application) → file_of s c a ≡ Some k → file_of (let_go s k) c a ≡ None
  let_go-alone c a e = go (file_of (let_go s k) c a) refl
    where
      go : (f : Option ℕ) → file_of (let_go s k) c a ≡ f → file_of (let_go s k) c a ≡ None
      go (Some j) q =
          let r = let_go-refiles s k in
          let f = file-at (let_go s k) c a j q in
          let l : j < 32 = omega (arith, f.low, (refiled-sized r z).slots) in
          elim (ℕ_discrete j k) [
            | yes g ↦ absurd (true≢false (sym f.incomplete ∙ none-complete (slot_at (let_go s k) j) (rw g (refiled-slot r z low))))
            | no g ↦
                let i = rw (refiled-slots r j g) at f.incomplete in
                let p = rw (refiled-slots r j g) at f.pair in
                let there : file_of s c a ≡ Some j = file-only s c a z h j l i p in
                let same : j ≡ k = cc in
                absurd (g same)
          ]
      go None q = q

-- a packet more for the file of slot k
pub record Next (s : Station) (k : ℕ) (x : Slot) : Type 0 where
  pub low : k < 32
  pub held : held (slot_at s k) ≡ true
  pub channel : x.channel.0 ≡ (slot_at s k).channel.0
  pub application : x.application.0 ≡ (slot_at s k).application.0
  pub bits : x.bits ≡ (slot_at s k).bits
  pub some : 1 ≤ x.accepted
  pub accepted : x.accepted ≤ need_of x
  pub count : x.count.0 < 16384
  pub going : incomplete x ≡ true → incomplete (slot_at s k) ≡ true

pub next-refiles : (s : Station) (k : ℕ) (x : Slot) → Refiled s k x (with_file s s.owner k x)
next-refiles s k x = record { frame = refl; long = refl; past = refl; others = λ j f. refl }

module _ {s : Station} (z : Sized s) (h : Sound s) {k : ℕ} {x : Slot} (n : Next s k x) where
  next-fit : Fit s x
  next-fit =
      let f = h.files k n.low n.held in
      record {
        some = n.some;
        accepted = n.accepted;
        watched = rw n.channel f.watched;
        application = rw n.application f.application;
        bits = rw n.bits f.bits;
        count = n.count;
      }

  pub next-sound : Sound (with_file s s.owner k x)
  next-sound =
      keeps z h n.low (next-refiles s k x) (file next-fit (rw n.bits (h.files k n.low n.held).places))
      (λ j l g w.
      g (h.alone j k l n.low w.one (n.going w.two) (w.channel ∙ n.channel) (w.application ∙ n.application)))

  pub next-room : room (with_file s s.owner k x) ≡ room s
  next-room = sym (free-room (refiled-sized (next-refiles s k x) z) next-sound) ∙ free-room z h
