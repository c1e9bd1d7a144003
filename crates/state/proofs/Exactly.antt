-- The tests of soundness answer true exactly if the state is sound, clause by clause. Assumes nothing.
use Rattle.std.specs.Prelude.{if◌then◌else◌}
use mathlib.Core.Path.{◌≡◌, refl, sym, ap, subst, ◌∙◌}
use mathlib.Core.Bool.{Bool, true, false, ◌&&◌, true≢false}
use mathlib.Core.List.{List, [], ◌∷◌}
use Prim.Native.Nat.{ℕ, zero, suc, ◌+◌, ◌-◌, ◌*◌, ◌≤◌, ◌<◌}
use native.Mathlib.Nat.{add-zero, zero-add, add-suc, suc-add}
use native.Mathlib.Omega.{arith}
use borrow.Author.Tests.{eqb-true, eqb-false, not-true, not-false, le-ltb, ltb-false}
use lib.Dec.{ltb, eqb}
use lib.ListN.{length, get_or, take, drop, length-map}
use lib.Seq.{length-take-le, get_or-take, get_or-drop}
use Rattle.octets.specs.Choice.{Decides}
use Rattle.octets.specs.Choice.Decides.{holds, fails}
use Rattle.octets.specs.Each.{each}
use Rattle.octets.proofs.Decide.{decides-same, told-true, tells, decides-by, decides-self, decides-leb, decides_ltb, decides_eqb, decides-then, ◌and◌, decides_not, decides-if, decides-unless, decides_below, decides-some, decides-apart}
use Rattle.octets.specs.Buffer.{all_zero}
use Rattle.octets.proofs.Below.{Below, Some, Apart, neither, below_none, below-cons, below-tail, some-none, apart_none, apart_cons, apart-head, apart-tail}
use Rattle.octets.proofs.Each.{decides-each}
use Rattle.octets.proofs.Lists.{whole_part}
use Rattle.octets.proofs.Tests.{true-unless}
use Rattle.octets.proofs.Zero.{all-blank, blank-at}
use Rattle.frame.specs.declared.Channel.{Channel}
use Rattle.packet.specs.declared.Application.{Application}
use Rattle.packet.specs.declared.Packet.{Packet}
use Rattle.packet.specs.declared.Look.TheVariants.{Bad, Good}
use Rattle.packet.specs.Header.{look_of, packet_of, size_of, bad}
use Rattle.transport.specs.Length.{good_length}
use Rattle.state.specs.declared.Slot.{Slot}
use Rattle.state.specs.declared.Desk.{Desk}
use Rattle.state.specs.declared.Station.{Station}
use Rattle.state.specs.Slots.{slot_at, desk_at, empty_desk, no_file, held, incomplete, need_of, of_pair, named, number}
use Rattle.state.specs.Blocks.{blocks_of, table}
use Rattle.state.specs.Sound.{Sized, SetUp, HeldSlot, DeskHolds, Sound, OctetsHeld, DesksSound, desk_octets}
use Rattle.state.specs.Decision.{among, distinct_channels, good_channels, set_up_sound, is_owner, slot_sound, block_counts, slots_sound, twin_in, no_twins, desk_holds, is_sound, longer, octets_held, desks_held, are_desks_sound}
use Rattle.state.proofs.Blocks.{length-counts, counts-at, rank-low, entry-low, entry_here}

-- "distinct channels 0 to 62"
pub among-exactly : (c : ℕ) (xs : List ℕ) → Decides (Some (λ (i : ℕ). get_or xs i 0 ≡ c) (length xs)) (among c xs)
unfolding among
among-exactly c [] = fails (some-none (λ (i : ℕ). get_or [] i 0 ≡ c))
among-exactly c (x ∷ xs) = decides-some (λ (i : ℕ). get_or (x ∷ xs) i 0 ≡ c) (decides_eqb x c) (among-exactly c xs)

abbrev pub Low : List ℕ → Type 0
Low cs = Below (λ (i : ℕ). get_or cs i 0 ≤ 62) (length cs)

abbrev pub Distinct : List ℕ → Type 0
Distinct cs = Apart (λ (i j : ℕ). get_or cs j 0 ≡ get_or cs i 0) (length cs)

distinct-exactly : (cs : List ℕ) → Decides (Low cs × Distinct cs) (distinct_channels cs)
unfolding distinct_channels
distinct-exactly [] = holds (below_none (λ (i : ℕ). get_or [] i 0 ≤ 62), apart_none (λ (i j : ℕ). get_or [] j 0 ≡ get_or [] i 0))
distinct-exactly (c ∷ cs) =
    let P : ℕ → Type 0 = λ i. get_or (c ∷ cs) i 0 ≤ 62 in
    let R : ℕ → ℕ → Type 0 = λ i j. get_or (c ∷ cs) j 0 ≡ get_or (c ∷ cs) i 0 in
    decides-same (λ ((first, other), (low, apart)). (below-cons P first low, apart_cons R other apart))
    (λ (low, apart). ((low 0 (omega arith), apart-head R apart), (below-tail P low, apart-tail R apart)))
    (decides-leb c 62 and decides_not (among-exactly c cs) and distinct-exactly cs)

-- "1 to 8 distinct channels 0 to 62"
pub channels-exactly : (cs : List ℕ) → Decides (((1 ≤ length cs) × (length cs ≤ 8)) × (Low cs × Distinct cs)) (good_channels cs)
unfolding good_channels
channels-exactly cs = decides-leb 1 (length cs) and decides-leb (length cs) 8 and distinct-exactly cs

-- as many names as channels, as many owners as blocks, and as many desks as channels, where the arrays have room for them
pub named-length : {s : Station} → Sized s → s.channels ≤ 8 → length (named s) ≡ s.channels
named-length {s} z few = length-map (take s.channels s.watched) number ∙ length-take-le s.channels s.watched (omega arith)

pub table-length : {s : Station} → Sized s → s.blocks ≤ 4096 → length (table s) ≡ s.blocks
table-length {s} z few = length-take-le s.blocks s.owner (omega arith)

pub desks-length : {s : Station} → Sized s → s.channels ≤ 8 → length (take s.channels s.desks) ≡ s.channels
desks-length {s} z few = length-take-le s.channels s.desks (omega arith)

pub set_up-exactly : (s : Station) → Sized s → Decides (SetUp s) (set_up_sound s.channels (named s) s.blocks)
unfolding set_up_sound
set_up-exactly s z =
    decides-same
    (λ (((few, ((one, eight), (low, apart))), store), least).
    let n : length (named s) ≡ s.channels = named-length z few in
    record {
      some = omega arith;
      few = few;
      low = λ i l. low i (omega arith);
      distinct = λ i j l m e. neither i j (λ p. apart i j p (omega arith) (sym e)) (λ p. apart j i p (omega arith) e);
      store = store;
      least = least;
    })
    (λ u.
    let n : length (named s) ≡ s.channels = named-length z u.few in
    let low : Low (named s) = λ i l. u.low i (omega arith) in
    let apart : Distinct (named s) = λ i j p l e. omega (arith, u.distinct i j (omega arith) (omega arith) (sym e)) in
    (((u.few, ((omega arith, omega arith), (low, apart))), u.store), u.least))
    (decides-leb s.channels 8 and channels-exactly (named s) and decides-leb 1 s.blocks and decides-leb s.blocks 4096)

-- a slot is held from the first packet on
pub held-accepted : (x : Slot) → held x ≡ true → 1 ≤ x.accepted
unfolding held
held-accepted x e = omega (arith, eqb-false x.accepted 0 (not-true (eqb x.accepted 0) e))

pub free-accepted : (x : Slot) → held x ≡ false → x.accepted ≡ 0
unfolding held
free-accepted x e = eqb-true x.accepted 0 (not-false (eqb x.accepted 0) e)

-- "a free slot is all zero"
all-zero : (x : Slot) → x.channel.0 ≡ 0 → x.application.0 ≡ 0 → x.bits ≡ 0 → x.count.0 ≡ 0 → x.accepted ≡ 0 → x ≡ no_file
all-zero x c a b n p =
    λ i. record { channel = record { 0 = c i }; application = record { 0 = a i }; bits = b i; count = record { 0 = n i }; accepted = p i }

-- slot k, held or free
abbrev pub SlotRight : Station → ℕ → Type 0
SlotRight s k =
    (held (slot_at s k) ≡ true → HeldSlot s k) × (held (slot_at s k) ≡ false → (slot_at s k ≡ no_file) × (length (blocks_of s k) ≡ 0))

pub slot-exactly : (s : Station) → length (named s) ≡ s.channels → (k : ℕ)
    → Decides (SlotRight s k) (slot_sound (named s) (length (blocks_of s k)) (slot_at s k))
unfolding slot_sound
slot-exactly s n k =
    let x = slot_at s k in
    decides-if (held x)
    (λ e.
    decides-same
    (λ (((((p, (i, low, here)), a), b), c), m).
    record { accepted = p; watched = (i, omega arith, here); application = a; bits = b; count = c; places = m })
    (λ h. (((((h.accepted, (h.watched.0, omega arith, h.watched.2)), h.application), h.bits), h.count), h.places))
    (decides-leb x.accepted (need_of x) and among-exactly x.channel.0 (named s) and decides-leb x.application.0 2015
    and decides-self (good_length x.bits)
    and decides_ltb x.count.0 16384
    and decides_eqb (length (blocks_of s k)) (need_of x)))
    (λ e.
    decides-same (λ ((((c, a), b), n), m). (all-zero x c a b n (free-accepted x e), m))
    (λ (z, m). (
      (
        ((ap (λ (y : Slot). y.channel.0) z, ap (λ (y : Slot). y.application.0) z), ap (λ (y : Slot). y.bits) z),
        ap (λ (y : Slot). y.count.0) z,
      ),
      m,
    ))
    (decides_eqb x.channel.0 0 and decides_eqb x.application.0 0 and decides_eqb x.bits 0 and decides_eqb x.count.0 0
    and decides_eqb (length (blocks_of s k)) 0))

slots-exactly : (watched : List ℕ) (P : ℕ → Type 0) (ns : List ℕ) (xs : List Slot) → length ns ≡ length xs
    → ((k : ℕ) → k < length xs → Decides (P k) (slot_sound watched (get_or ns k 0) (get_or xs k no_file)))
    → Decides (Below P (length xs)) (slots_sound watched ns xs)
unfolding slots_sound
slots-exactly watched P [] [] e t = holds (below_none P)
slots-exactly watched P [] (x ∷ xs) e t = absurd (omega arith)
slots-exactly watched P (n ∷ ns) [] e t = absurd (omega arith)
slots-exactly watched P (n ∷ ns) (x ∷ xs) e t =
    decides_below P (t 0 (omega arith))
    (slots-exactly watched (λ (k : ℕ). P (suc k)) ns xs (omega arith) (λ k h. t (suc k) (omega arith)))

-- "no two incomplete slots share channel and application"
abbrev pub Twin : Slot → Slot → Type 0
Twin x y = (incomplete y ≡ true) × ((y.channel.0 ≡ x.channel.0) × (y.application.0 ≡ x.application.0))

abbrev pub Twins : Slot → Slot → Type 0
Twins x y = (incomplete x ≡ true) × Twin x y

two-numbers : {P : Type 0} (m n p q : ℕ) → (m ≡ n → p ≡ q → P) → (P → (m ≡ n) × (p ≡ q)) → Decides P (eqb m n && eqb p q)
two-numbers m n p q there back = decides-same (λ (f, g). there f g) back (decides_eqb m n and decides_eqb p q)

-- a file of this channel and application
pair-exactly : (c : Channel) (a : Application) (y : Slot) → Decides ((y.channel.0 ≡ c.0) × (y.application.0 ≡ a.0)) (of_pair c a y)
unfolding of_pair
pair-exactly c a y = two-numbers y.channel.0 _ y.application.0 _ (λ f g. (omega arith, omega arith)) (λ h. (omega arith, omega arith))

twin-exactly : (x : Slot) (ys : List Slot) → Decides (Some (λ (j : ℕ). Twin x (get_or ys j no_file)) (length ys)) (twin_in x ys)
unfolding twin_in
twin-exactly x [] = fails (some-none (λ (j : ℕ). Twin x no_file))
twin-exactly x (y ∷ ys) =
    decides-some (λ (j : ℕ). Twin x (get_or (y ∷ ys) j no_file))
    (decides-self (incomplete y) and pair-exactly x.channel x.application y)
    (twin-exactly x ys)

pub twins-exactly : (xs : List Slot) → Decides (Apart (λ (i j : ℕ). Twins (get_or xs i no_file) (get_or xs j no_file)) (length xs)) (no_twins xs)
unfolding no_twins
twins-exactly [] = holds (apart_none (λ (i j : ℕ). Twins no_file no_file))
twins-exactly (x ∷ xs) =
    decides-apart (λ (i j : ℕ). Twins (get_or (x ∷ xs) i no_file) (get_or (x ∷ xs) j no_file))
    (decides-same (λ (p, (j, l, t)). (j, l, (p, t))) (λ (j, l, (p, t)). (p, (j, l, t))) (decides-self (incomplete x) and twin-exactly x xs))
    (twins-exactly xs)

-- "each desk holds 0 to 8,197 octets, .. a last frame counter below 2^24, and, where no frame was seen, counter 0 and nothing held"
pub desk-exactly : (d : Desk) → Decides (DeskHolds d) (desk_holds d)
unfolding desk_holds
desk-exactly d =
    decides-same (λ h. record { few = h.0.0; counter = h.0.1; unseen = h.1 }) (λ h. ((h.few, h.counter), h.unseen))
    (decides-leb d.held 8197 and decides_ltb d.counter.0 0x1000000
    and decides-unless d.seen (decides_eqb d.counter.0 0 and decides_eqb d.held 0))

-- the clauses as the tests go through them
abbrev Owned : Station → Type 0
Owned s = (b : ℕ) → b < s.blocks → get_or (table s) b 0 ≤ 32

abbrev Files : Station → Type 0
Files s = (k : ℕ) → k < 32 → SlotRight s k

abbrev Alone : Station → ℕ → Type 0
Alone s n = Apart (λ (i j : ℕ). Twins (slot_at s i) (slot_at s j)) n

abbrev Desks : Station → Type 0
Desks s = (i : ℕ) → i < s.channels → DeskHolds (desk_at s i)

pub owner-held : {s : Station} → Sound s → (b k : ℕ) → b < s.blocks → get_or (table s) b 0 ≡ suc k → (k < 32) × (held (slot_at s k) ≡ true)
owner-held {s} S b k l e =
    let right = S.blocks b l (λ f. omega arith) in
    let owner : get_or (table s) b 0 - 1 ≡ k = omega arith in
    (omega (arith, right.0), rw owner at right.1)

at_most : (o n : ℕ) → ((o ≡ 0 → ⊥) → o ≤ n) → o ≤ n
at_most zero n f = omega arith
at_most (suc o) n f = f (λ e. omega arith)

pub owner-most : {s : Station} → Sound s → (b : ℕ) → b < s.blocks → get_or (table s) b 0 ≤ 32
owner-most {s} S b l = at_most (get_or (table s) b 0) 32 (λ f. (S.blocks b l f).0)

module _ (s : Station) (z : Sized s) where
  owners-exactly : SetUp s → Decides (Owned s) (each is_owner (table s))
  owners-exactly u =
      let P : ℕ → Type 0 = λ b. get_or (table s) b 0 ≤ 32 in
      subst (λ (n : ℕ). Decides (Below P n) (each is_owner (table s))) (table-length z u.least)
      (decides-each is_owner P (table s) 0 (λ b h. decides-leb (get_or (table s) b 0) 32))

  files-exactly : SetUp s → Decides (Files s) (slots_sound (named s) (block_counts (table s) 0 32) s.slots)
  files-exactly u =
      let ns = block_counts (table s) 0 32 in
      subst (λ (n : ℕ). Decides (Below (SlotRight s) n) (slots_sound (named s) ns s.slots)) z.slots
      (slots-exactly (named s) (SlotRight s) ns s.slots (length-counts (table s) 0 32 ∙ sym z.slots)
      (λ k h. rw (counts-at (table s) 0 32 k (omega (arith, z.slots)), zero-add) (slot-exactly s (named-length z u.few) k)))

  alone-exactly : Decides (Alone s 32) (no_twins s.slots)
  alone-exactly = subst (λ (n : ℕ). Decides (Alone s n) (no_twins s.slots)) z.slots (twins-exactly s.slots)

  desks-hold : SetUp s → Decides (Desks s) (each desk_holds (take s.channels s.desks))
  desks-hold u =
      let P : ℕ → Type 0 = λ i. DeskHolds (desk_at s i) in
      let ds = take s.channels s.desks in
      let n : length ds ≡ s.channels = desks-length z u.few in
      subst (λ (m : ℕ). Decides (Below P m) (each desk_holds ds)) n
      (decides-each desk_holds P ds empty_desk
      (λ i h. rw (get_or-take s.channels s.desks i empty_desk (omega arith)) (desk-exactly (desk_at s i))))

  -- an owner is held, as a free slot owns no block
  owns-held : SetUp s → Files s → (b k : ℕ) → b < s.blocks → k < 32 → get_or (table s) b 0 ≡ suc k → held (slot_at s k) ≡ true
  owns-held u f b k l m e =
      true-unless (held (slot_at s k))
      (λ n. omega (arith, rank-low (suc k) 0 (table s) b (omega (arith, table-length z u.least)) e, ((f k m).1 n).1))

  -- a free slot owns no block, as an owner is held
  pub free-owns-none : Sound s → (k : ℕ) → held (slot_at s k) ≡ false → length (blocks_of s k) ≡ 0
  free-owns-none S k n =
      neither (length (blocks_of s k)) 0 (λ p. omega arith)
      (λ p.
      let b = get_or (blocks_of s k) 0 0 in
      let low : b < s.blocks = omega (arith, table-length z S.set_up.least, entry-low (suc k) (table s) 0 p) in
      true≢false (sym (owner-held S b k low (entry_here (suc k) (table s) 0 p)).1 ∙ n))

  sound-of : SetUp s → Owned s → Files s → Alone s 32 → Desks s → Sound s
  sound-of u owned files alone desks =
      record {
        set_up = u;
        blocks = λ b l f. (owned b l, owns-held u files b (get_or (table s) b 0 - 1) l (omega (arith, owned b l)) (omega arith));
        files = λ k l. (files k l).0;
        alone = λ j k l m p q c a. neither j k (λ h. alone j k h m (p, (q, (sym c, sym a)))) (λ h. alone k j h l (q, (p, (c, a))));
        free = λ k l e. ((files k l).1 e).0;
        desks = desks;
      }

  files-of : Sound s → Files s
  files-of S k l = (S.files k l, λ e. (S.free k l e, free-owns-none S k e))

  alone_of : Sound s → Alone s 32
  alone_of S i j h l (p, (q, (c, a))) = omega (arith, S.alone i j (omega arith) l p q (sym c) (sym a))

  -- THE decision: the test answers true exactly if the state is sound
  pub sound-exactly : Decides (Sound s) (is_sound s)
  unfolding is_sound
  sound-exactly =
      decides-same (λ ((((u, owned), files), alone), desks). sound-of u owned files alone desks)
      (λ S. ((((S.set_up, owner-most S), files-of S), alone_of S), S.desks))
      (decides-then
      (decides-then
      (decides-then (decides-then (set_up-exactly s z) owners-exactly) (λ (u, owned). files-exactly u))
      (λ h. alone-exactly))
      (λ (((u, owned), files), alone). desks-hold u))

module _ {s : Station} (z : Sized s) where
  pub sound-yes : is_sound s ≡ true → Sound s
  sound-yes = told-true (sound-exactly s z)

  pub sound-true : Sound s → is_sound s ≡ true
  sound-true = tells (sound-exactly s z)

-- a desk's octets: "zeros after them"
zeros-exactly : (h : ℕ) (d : List ℕ) → Decides ((i : ℕ) → h ≤ i → get_or d i 0 ≡ 0) (all_zero (drop h d))
zeros-exactly h d =
    decides-by (all_zero (drop h d))
    (λ e i l. let k : h + (i - h) ≡ i = omega arith in rw k at (sym (get_or-drop h d (i - h) 0) ∙ blank-at (drop h d) (i - h) e))
    (λ e f. true≢false (sym (all-blank (drop h d) (λ i l. get_or-drop h d i 0 ∙ f (h + i) (omega arith))) ∙ e))

-- "six or more held octets read as a good packet header whose packet is longer than what is held"
longer-exactly : (h : ℕ) (p : Packet) (b : Bool) → Decides ((b ≡ false) × (h < size_of p)) (longer h (if b then Bad else Good p))
unfolding longer
longer-exactly h p true = fails (λ r. true≢false r.0)
longer-exactly h p false = decides-same (λ q. (refl, q)) (λ r. r.1) (decides_ltb h (size_of p))

header-exactly : (h : ℕ) (d : List ℕ) → 6 ≤ length d
    → Decides ((bad (packet_of d) ≡ false) × (h < size_of (packet_of d))) (longer h (look_of d))
unfolding look_of
header-exactly h d l = rw (le-ltb (length d) 6 l) (longer-exactly h (packet_of d) (bad (packet_of d)))

pub octets-exactly : (h : ℕ) (d : List ℕ) → 6 ≤ length d → Decides (OctetsHeld h d) (octets_held h d)
unfolding octets_held
octets-exactly h d l =
    decides-same
    (λ r. record { zeros = r.0; header = λ m. r.1 (le-ltb h 6 m) })
    (λ r. (r.zeros, λ e. r.header (ltb-false h 6 e)))
    (zeros-exactly h d and decides-unless (ltb h 6) (header-exactly h d l))

each-desk : (P : ℕ → Type 0) (i : ℕ) (ds : List Desk) (desks : List ℕ)
    → ((j : ℕ) → j < length ds → Decides (P j) (octets_held (get_or ds j empty_desk).held (desk_octets (i + j) desks)))
    → Decides (Below P (length ds)) (desks_held i ds desks)
unfolding desks_held
each-desk P i [] desks t = holds (below_none P)
each-desk P i (d ∷ ds) desks t =
    decides_below P (rw add-zero at (t 0 (omega arith)))
    (each-desk (λ (j : ℕ). P (suc j)) (suc i) ds desks (λ j h. rw (suc-add i j, ← add-suc i j) (t (suc j) (omega arith))))

-- THE decision on the desks' octets
pub desks-exactly : (s : Station) (desks : List ℕ) → Sized s → Sound s → length desks ≡ 8198 * s.channels
    → Decides (DesksSound s desks) (are_desks_sound s desks)
unfolding are_desks_sound
desks-exactly s desks z S l =
    let P : ℕ → Type 0 = λ i. OctetsHeld (desk_at s i).held (desk_octets i desks) in
    let ds = take s.channels s.desks in
    let n : length ds ≡ s.channels = desks-length z S.set_up.few in
    decides-same (λ h. record { octets = h }) (λ h. h.octets)
    (subst (λ (m : ℕ). Decides (Below P m) (desks_held 0 ds desks)) n
    (each-desk P 0 ds desks
    (λ i h.
    rw (get_or-take s.channels s.desks i empty_desk (omega arith), zero-add)
    (octets-exactly (desk_at s i).held (desk_octets i desks) (omega (arith, whole_part desks (8198 * i) 8198 (omega arith)))))))

module _ {s : Station} (desks : List ℕ) (z : Sized s) (S : Sound s) (l : length desks ≡ 8198 * s.channels) where
  pub desks-yes : are_desks_sound s desks ≡ true → DesksSound s desks
  desks-yes = told-true (desks-exactly s desks z S l)

  pub desks-true : DesksSound s desks → are_desks_sound s desks ≡ true
  desks-true = tells (desks-exactly s desks z S l)
