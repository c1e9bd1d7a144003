-- The packets of the runs that can be written down: how they are read, what they carry, and what they make of the files. Assumes nothing.
use Rattle.std.specs.Prelude.{Some, None}
use mathlib.Core.Path.{◌≡◌, refl, sym, ap, subst, ◌∙◌}
use mathlib.Core.Bool.{true, and-false}
use mathlib.Core.Logic.{◌⊎◌, inl, inr, ⊎_elim}
use mathlib.Core.List.{List, [], ◌∷◌, ◌++◌, append_assoc}
use Prim.Native.Nat.{ℕ, ◌+◌, ◌-◌, ◌*◌, ◌/◌, ◌%◌, ◌≤◌, ◌<◌}
use native.Mathlib.Omega.{arith}
use borrow.Author.Tests.{eq-eqb, ne_eqb, le-ltb}
use lib.Dec.{eqb}
use lib.ListN.{length, take, drop, set, replicate, length-append, length-replicate, drop_of_length-le}
use lib.Seq.{take_all, take_at, drop_at, take-append-le}
use Rattle.octets.specs.Number.{number, number_at, bits_at, part}
use Rattle.octets.specs.Choice.{Decides}
use Rattle.octets.proofs.Decide.{tells, told-true}
use Rattle.crc.specs.Crc.{bit, shifted, octet, crc_from, crc_of}
use Rattle.crc.proofs.Laws.{crc_of-own, crc_of-zeros}
use Rattle.packet.specs.declared.Packet.{Packet}
use Rattle.packet.specs.declared.Look.TheVariants.{Short, Good}
use Rattle.packet.specs.Header.{packet_of, size_of, bad, look_of}
use Rattle.packet.proofs.Looks.{look-good, look-same}
use Rattle.transport.specs.declared.Transport.{Transport}
use Rattle.transport.specs.Length.{transport_of, good_length, octets_of_bits, transport_size, need, rest}
use Rattle.transport.specs.Shape.{whole_fits, begun_of}
use Rattle.state.specs.declared.Slot.{Slot}
use Rattle.state.specs.Slots.{no_file, held, incomplete, of_pair}
use Rattle.state.specs.Blocks.{needs}
use Rattle.room.specs.Find.{free_from, file_from}
use Rattle.events.specs.Event.{Event, of, at}
use Rattle.judge.specs.Judge.{data_of, check_of, goes_on}
use Rattle.judge.specs.Packets.{Undamaged, Starting, Starts, Following}
use Rattle.judge.proofs.Parts.{right-begun, following-exactly}
use Rattle.zone.specs.Zone.{behind, split}
use Rattle.zone.proofs.Split.{split-short, split-whole}
use Rattle.station.specs.SetUp.{channel_of}
use Rattle.history.specs.Run.{World}
use Rattle.history.proofs.Turns.{false-unless}
use Rattle.guards.specs.Sent.{ten_frames_on, checked, long, first, middle, tiny, last, fill, whole_of, damaged, reserved, header_alone, twelve_bits}
use Rattle.guards.proofs.Sending.{cut, ListensOn, MakesOn, BringsOn, ten-bring}
use Rattle.guards.proofs.Making.{MakesOneOn, MakesOne, makes-fill, makes-other, makes-damaged, makes-wrong, makes-open, makes-refused, makes-over, makes-stray, makes-more, makes-end}

-- data with their check behind their beginning
module _ (xs : List ℕ) where
  long-check : crc_of (long xs) ≡ 0
  long-check = crc_of-zeros (xs ++ (crc_of xs / 0x100 ∷ crc_of xs % 0x100 ∷ [])) (8188 - length xs) (crc_of-own xs)

  pub long-size : length xs ≤ 8188 → length (long xs) ≡ 8190
  long-size l =
      omega (
        arith,
        length-append (xs ++ (crc_of xs / 0x100 ∷ crc_of xs % 0x100 ∷ [])) (replicate (8188 - length xs) 0),
        length-append xs (crc_of xs / 0x100 ∷ crc_of xs % 0x100 ∷ []),
        length-replicate {A = ℕ} (8188 - length xs) 0,
      )

-- a packet of 8,198 octets: header h, which reads as e, and data d
module _ (h d : List ℕ) (six : length h ≡ 6) (size : length d ≡ 8190) where
  checked-size : length (checked h d) ≡ 8198
  checked-size = omega (arith, length-append (h ++ d) (0 ∷ 0 ∷ []), length-append h d)

  checked-data : data_of (checked h d) ≡ d
  checked-data =
      ap (λ (n : ℕ). part 6 (n - 8) (checked h d)) checked-size
      ∙ ap (λ (xs : List ℕ). take 8190 (drop 6 xs)) (append_assoc h d (0 ∷ 0 ∷ []))
      ∙ ap (take 8190) (drop_at h (d ++ (0 ∷ 0 ∷ [])) 6 six)
      ∙ take_at d (0 ∷ 0 ∷ []) 8190 size

  checked-check : check_of (checked h d) ≡ 0
  unfolding number_at number
  checked-check =
      ap (λ (n : ℕ). number_at (checked h d) (n - 2) 2) checked-size
      ∙ ap (λ (xs : List ℕ). number (take 2 xs)) (drop_at (h ++ d) (0 ∷ 0 ∷ []) 8196 (omega (arith, length-append h d)))

  checked-front : take 6 (checked h d) ≡ take 6 h
  checked-front =
      take-append-le 6 (h ++ d) (0 ∷ 0 ∷ []) (omega (arith, length-append h d)) ∙ take-append-le 6 h d (omega arith)

  checked-look : (tail : List ℕ) → look_of (checked h d ++ tail) ≡ look_of h
  checked-look tail =
      look-same (checked h d ++ tail) h (omega (arith, length-append (checked h d) tail, checked-size)) (omega arith)
      (take-append-le 6 (checked h d) tail (omega (arith, checked-size)) ∙ checked-front)

  module _ (e : Packet) (reads : look_of h ≡ Good e) where
    head : e ≡ packet_of (checked h d)
    head =
        (look-good (checked h d) e
        (look-same (checked h d) h (omega (arith, checked-size)) (omega arith) checked-front ∙ reads)).is

    intact : crc_of d ≡ 0 → e.application.0 ≤ 2015 → Undamaged (checked h d)
    intact c l = record { file = rw (← head) l; intact = eq-eqb _ _ (ap crc_of checked-data ∙ c ∙ sym checked-check) }

    -- it is carried by ten frames, with others behind it
    module _ (n : ℕ) (room : n + 10 ≤ 256) (tail list : List ℕ) (behind-it : length tail ≡ 642) (listed : 900 ≤ length list) (big : size_of e ≡ 8198)
        (qs : List (List ℕ)) (cuts : split tail ≡ cut qs [])
        {c : ℕ} {xs ys : List Slot} {es : List Event} (does : MakesOn c xs (checked h d ∷ qs) ys es) where
      pub carries : (w : World) → ListensOn c w n [] xs → BringsOn c w (ten_frames_on c n (checked h d ++ tail) list) (n + 10) ys es
      carries w L =
          let octets = checked h d ++ tail in
          let look : look_of octets ≡ Good e = checked-look tail ∙ reads in
          let long-enough : length octets ≡ 8840 = omega (arith, length-append (checked h d) tail, checked-size) in
          ten-bring n room octets list long-enough listed look big (checked h d ∷ qs)
          (split-whole octets look (omega arith)
          ∙ rw (big, take_at (checked h d) tail 8198 checked-size, drop_at (checked h d) tail 8198 checked-size, cuts) refl)
          does L

-- the six octets of a header with application u * 256 + v
abbrev pub six_of : ℕ → ℕ → ℕ → ℕ → ℕ → List ℕ
six_of u v f n l = u ∷ v ∷ f * 64 ∷ n ∷ l / 0x100 ∷ l % 0x100 ∷ []

abbrev pub head_of : ℕ → ℕ → ℕ → ℕ → Packet
head_of a f n l = record { version = 0; application = record { 0 = a }; flags = f; count = record { 0 = n }; length = l }

module _ (u v a f n l : ℕ) (us : u < 8) (vs : v < 256) (is : a ≡ u * 256 + v) (fs : f < 4) (ns : n < 256) (two : 2 ≤ l) (ls : l ≤ 8191) (xs : List ℕ) where
  header_is : packet_of (six_of u v f n l ++ xs) ≡ head_of a f n l
  unfolding packet_of bits_at number
  header_is =
      let h = six_of u v f n l in
      let b : bits_at h 0 3 ≡ 0 = omega arith in
      let c : bits_at h 5 11 ≡ a = omega arith in
      let d : bits_at h 16 2 ≡ f = omega arith in
      let e : bits_at h 18 14 ≡ n = omega arith in
      let g : bits_at h 32 16 ≡ l = omega arith in
      λ i. record { version = b i; application = record { 0 = c i }; flags = d i; count = record { 0 = e i }; length = g i }

  pub header-look : look_of (six_of u v f n l ++ xs) ≡ Good (head_of a f n l)
  unfolding look_of bad
  header-look =
      rw (le-ltb (length (six_of u v f n l ++ xs)) 6 (omega arith), header_is, le-ltb 8191 l ls, le-ltb l 2 two, and-false)

-- the header of a whole packet
module _ (a l : ℕ) (low : a < 256) (two : 2 ≤ l) (ls : l ≤ 8191) (xs : List ℕ) where
  whole_is : head_of a 3 0 l ≡ packet_of (six_of 0 a 3 0 l ++ xs)
  whole_is = sym (header_is 0 a a 3 0 l (omega arith) low (omega arith) (omega arith) (omega arith) two ls xs)

  whole-look : look_of (six_of 0 a 3 0 l ++ xs) ≡ Good (head_of a 3 0 l)
  whole-look = header-look 0 a a 3 0 l (omega arith) low (omega arith) (omega arith) (omega arith) two ls xs

-- a file of channel c, application a and L bits, of which the packets up to count n are accepted
abbrev pub file_on : ℕ → ℕ → ℕ → ℕ → Slot
file_on c a L n = record { channel = channel_of c; application = record { 0 = a }; bits = L; count = record { 0 = n }; accepted = n + 1 }

abbrev pub file_at : ℕ → ℕ → ℕ → Slot
file_at a L n = file_on 2 a L n

-- the ten octets of a file of L bits
abbrev pub ten : ℕ → List ℕ
ten L = 0 ∷ 0 ∷ 0 ∷ 0 ∷ 0 ∷ 0 ∷ 0 ∷ L / 0x10000 ∷ L / 0x100 % 0x100 ∷ L % 0x100 ∷ []

abbrev pub bits : ℕ → Transport
bits L = record { counter = 0; bits = L }

-- with the counter m
abbrev pub numbered : ℕ → ℕ → Transport
numbered m L = record { counter = m; bits = L }

module _ (L : ℕ) (small : L < 0x1000000) where
  ten-bits : bits L ≡ transport_of (long (ten L))
  unfolding transport_of number number_at
  ten-bits =
      let e : L ≡ number_at (long (ten L)) 2 8 = omega arith in
      λ i. record { counter = 0; bits = e i }

  begins-right : good_length L ≡ true → 2 ≤ need L → begun_of 1 (long (ten L)) ≡ Some (bits L)
  begins-right good two =
      let size = long-size (ten L) (omega arith) in
      right-begun 1 (long (ten L))
      (record { long = omega arith; is = ten-bits; good = good; shape = inl (refl, size, two); few = omega arith; some = omega arith })

-- a first packet
module _ (a L : ℕ) (low : a < 256) (small : L < 0x1000000) where
  first-look : look_of (six_of 0 a 1 0 8191) ≡ Good (head_of a 1 0 8191)
  first-look = header-look 0 a a 1 0 8191 (omega arith) low (omega arith) (omega arith) (omega arith) (omega arith) (omega arith) []

  first-intact : Undamaged (first a L)
  first-intact =
      intact (six_of 0 a 1 0 8191) (long (ten L)) refl (long-size (ten L) (omega arith)) (head_of a 1 0 8191) first-look (long-check (ten L)) (omega arith)

  first_head : head_of a 1 0 8191 ≡ packet_of (first a L)
  first_head = head (six_of 0 a 1 0 8191) (long (ten L)) refl (long-size (ten L) (omega arith)) (head_of a 1 0 8191) first-look

  first-data : data_of (first a L) ≡ long (ten L)
  first-data = checked-data (six_of 0 a 1 0 8191) (long (ten L)) refl (long-size (ten L) (omega arith))

  -- with the files xs
  module _ (good : good_length L ≡ true) (two : 2 ≤ need L) {c : ℕ} (xs : List Slot)
      (none : file_from 0 (channel_of c) (record { 0 = a }) xs ≡ None) {k : ℕ} (free : free_from 0 xs ≡ Some k) where
    pub first-opens : need L ≤ 7 - needs xs → MakesOneOn c xs (first a L) (set xs k (file_on c a L 0)) (at 10 a k ∷ [])
    first-opens l =
        makes-open (first a L) (long (ten L)) (head_of a 1 0 8191) first_head first-data xs first-intact (inl refl) (begins-right L small good two)
        none free l

    pub first-refused : 7 - needs xs < need L → MakesOneOn c xs (first a L) xs (of 9 a ∷ [])
    first-refused l =
        makes-refused (first a L) (long (ten L)) (head_of a 1 0 8191) first_head first-data xs first-intact (inl refl)
        (begins-right L small good two) none free l

-- a packet in front of others
pub one-before : (p tail : List ℕ) (qs : List (List ℕ)) {h : Packet} → look_of (p ++ tail) ≡ Good h → length p ≡ size_of h → split tail ≡ cut qs []
    → split (p ++ tail) ≡ cut (p ∷ qs) []
one-before p tail qs {h} e l cuts =
    split-whole (p ++ tail) e (omega (arith, length-append p tail))
    ∙ rw (take_at p tail (size_of h) l, drop_at p tail (size_of h) l) (ap (behind p) cuts)

-- a later packet of one octet with count m
module _ (f a m : ℕ) (fs : (f ≡ 0) ⊎ (f ≡ 2)) (low : a < 256) (ms : m < 256) where
  tiny-flags : f < 4
  tiny-flags = ⊎_elim (λ e. omega arith) (λ e. omega arith) fs

  tiny-head : head_of a f m 2 ≡ packet_of (tiny f a m)
  tiny-head = sym (header_is 0 a a f m 2 (omega arith) low (omega arith) tiny-flags ms (omega arith) (omega arith) (0xff ∷ 0xff ∷ 0 ∷ []))

  tiny-intact : Undamaged (tiny f a m)
  unfolding crc_of crc_from octet shifted bit number_at number
  tiny-intact = record { file = rw (← tiny-head) (omega arith); intact = refl }

  tiny-later : Starting (head_of a f m 2) → ⊥
  tiny-later = ⊎_elim (λ e. ⊎_elim (λ d. omega arith) (λ d. omega arith) fs) (λ e. ⊎_elim (λ d. omega arith) (λ d. omega arith) fs)

  -- of no file
  pub tiny-stray : {c : ℕ} (xs : List Slot) → file_from 0 (channel_of c) (record { 0 = a }) xs ≡ None
      → MakesOneOn c xs (tiny f a m) xs (of 5 a ∷ [])
  tiny-stray xs none = makes-stray (tiny f a m) (0xff ∷ []) (head_of a f m 2) tiny-head refl xs tiny-intact tiny-later none

  pub tiny-before : (tail : List ℕ) (qs : List (List ℕ)) → split tail ≡ cut qs [] → split (tiny f a m ++ tail) ≡ cut (tiny f a m ∷ qs) []
  tiny-before tail qs =
      one-before (tiny f a m) tail qs
      (header-look 0 a a f m 2 (omega arith) low (omega arith) tiny-flags ms (omega arith) (omega arith) (0xff ∷ 0xff ∷ 0 ∷ tail)) refl

-- a later packet of the file in slot 0, of which the packets up to count n are accepted
module _ (a L n : ℕ) (low : a < 256) (few : n < 254) (more : n + 1 < need L) (zs : List Slot) where
  there : file_from 0 (channel_of 2) (record { 0 = a }) (file_at a L n ∷ zs) ≡ Some 0
  unfolding file_from of_pair incomplete held
  there = rw (eq-eqb a a refl, ne_eqb (n + 1) 0 (λ e. omega arith), ne_eqb (n + 1) (need L) (λ e. omega arith))

  pub middle-adds : n + 2 < need L → MakesOne (file_at a L n ∷ zs) (middle a (n + 1)) (file_at a L (n + 1) ∷ zs) (at 11 a 0 ∷ [])
  middle-adds l =
      let six = six_of 0 a 0 (n + 1) 8191 in
      let h = head_of a 0 (n + 1) 8191 in
      let size = long-size [] (omega arith) in
      let look : look_of six ≡ Good h = header-look 0 a a 0 (n + 1) 8191 (omega arith) low (omega arith) (omega arith) (omega arith) (omega arith) (omega arith) [] in
      let later : Starting h → ⊥ = ⊎_elim (λ e. omega arith) (λ e. omega arith) in
      makes-more (middle a (n + 1)) (long []) h (head six (long []) refl size h look) (checked-data six (long []) refl size) (file_at a L n ∷ zs)
      (intact six (long []) refl size h look (long-check []) (omega arith)) later there
      (tells (following-exactly (file_at a L n) h (long []) later)
      (record { count = omega arith; shape = inl (refl, size, λ e. omega arith); few = omega arith }))

  -- one of one octet
  module _ (f m : ℕ) (fs : (f ≡ 0) ⊎ (f ≡ 2)) (ms : m < 256) where
    goes : Decides (Following (file_at a L n) (head_of a f m 2) (0xff ∷ [])) (goes_on (file_at a L n) (head_of a f m 2) (0xff ∷ []))
    goes = following-exactly (file_at a L n) (head_of a f m 2) (0xff ∷ []) (tiny-later f a m fs low ms)

    ends-unless : (Following (file_at a L n) (head_of a f m 2) (0xff ∷ []) → ⊥)
        → MakesOne (file_at a L n ∷ zs) (tiny f a m) (no_file ∷ zs) (at 6 a 0 ∷ [])
    ends-unless q =
        makes-end (tiny f a m) (0xff ∷ []) (head_of a f m 2) (tiny-head f a m fs low ms) refl (file_at a L n ∷ zs) (tiny-intact f a m fs low ms)
        (tiny-later f a m fs low ms) there (false-unless _ (λ e. q (told-true goes e)))

  -- a middle packet is longer
  pub tiny-ends : (m : ℕ) → m < 256 → MakesOne (file_at a L n ∷ zs) (tiny 0 a m) (no_file ∷ zs) (at 6 a 0 ∷ [])
  tiny-ends m ms = ends-unless 0 m (inl refl) ms (λ e. ⊎_elim (λ q. omega (arith, q.1)) (λ q. omega (arith, q.0)) e.shape)

  module _ (m : ℕ) (ms : m < 256) where
    pub last-adds : m ≡ n + 1 → n + 2 ≡ need L → rest L ≡ 1 → MakesOne (file_at a L n ∷ zs) (last a m) (file_at a L m ∷ zs) (at 12 a 0 ∷ [])
    last-adds q all one =
        subst (λ (x : Slot). MakesOne (file_at a L n ∷ zs) (last a m) (x ∷ zs) (at 12 a 0 ∷ []))
        (λ i. record { channel = channel_of 2; application = record { 0 = a }; bits = L; count = record { 0 = m }; accepted = sym q i + 1 })
        (makes-more (last a m) (0xff ∷ []) (head_of a 2 m 2) (tiny-head 2 a m (inr refl) low ms) refl (file_at a L n ∷ zs)
        (tiny-intact 2 a m (inr refl) low ms) (tiny-later 2 a m (inr refl) low ms) there
        (tells (goes 2 m (inr refl) ms) (record { count = omega arith; shape = inr (refl, omega arith, sym one); few = omega arith })))

    pub last-ends : (m ≡ n + 1 → ⊥) → MakesOne (file_at a L n ∷ zs) (last a m) (no_file ∷ zs) (at 6 a 0 ∷ [])
    last-ends q = ends-unless 2 m (inr refl) ms (λ e. q (omega (arith, e.count)))

none-there : look_of [] ≡ Short
unfolding look_of
none-there = refl

-- a fill packet
module _ (n : ℕ) (some : 9 ≤ n) (most : n ≤ 884) where
  fill-head : head_of 2047 3 0 (n - 7) ≡ packet_of (fill n)
  fill-head =
      sym
      (header_is 7 255 2047 3 0 (n - 7) (omega arith) (omega arith) (omega arith) (omega arith) (omega arith) (omega arith) (omega arith)
      (replicate (n - 6) 0))

  pub fill-makes : {c : ℕ} (xs : List Slot) → MakesOneOn c xs (fill n) xs []
  fill-makes xs = makes-fill (fill n) (data_of (fill n)) (head_of 2047 3 0 (n - 7)) fill-head refl xs (omega arith)

  pub fill-size : length (fill n) ≡ n
  fill-size = omega (arith, length-replicate {A = ℕ} (n - 6) 0)

  pub fill-cuts : split (fill n) ≡ cut (fill n ∷ []) []
  fill-cuts =
      let k : 7 + (n - 7) ≡ n = omega arith in
      split-whole (fill n)
      (header-look 7 255 2047 3 0 (n - 7) (omega arith) (omega arith) (omega arith) (omega arith) (omega arith) (omega arith) (omega arith)
      (replicate (n - 6) 0))
      (omega (arith, fill-size))
      ∙ rw (k, take_all n (fill n) (omega (arith, fill-size)), drop_of_length-le (fill n) {i = n} (omega (arith, fill-size)))
      (ap (behind (fill n)) (split-short [] none-there))

  -- behind a last packet
  pub last-cuts : (a m : ℕ) → a < 256 → m < 256 → split (last a m ++ fill n) ≡ cut (last a m ∷ fill n ∷ []) []
  last-cuts a m low ms = tiny-before 2 a m (inr refl) low ms (fill n) (fill n ∷ []) fill-cuts

  -- and behind any other
  one-cut : (p : List ℕ) {h : Packet} → look_of (p ++ fill n) ≡ Good h → length p ≡ size_of h → split (p ++ fill n) ≡ cut (p ∷ fill n ∷ []) []
  one-cut p e l = one-before p (fill n) (fill n ∷ []) e l fill-cuts

  pub whole-cuts : (a : ℕ) → a < 256 → split (whole_of a ++ fill n) ≡ cut (whole_of a ∷ fill n ∷ []) []
  whole-cuts a low = one-cut (whole_of a) (whole-look a 12 low (omega arith) (omega arith) (drop 6 (whole_of a) ++ fill n)) refl

-- the whole packet of a file of one octet
module _ (a : ℕ) (low : a < 256) where
  pub whole-head : head_of a 3 0 12 ≡ packet_of (whole_of a)
  whole-head = whole_is a 12 low (omega arith) (omega arith) (drop 6 (whole_of a))

  pub whole-intact : Undamaged (whole_of a)
  unfolding crc_of crc_from octet shifted bit number number_at
  whole-intact = record { file = rw (← whole-head) (omega arith); intact = refl }

  pub whole-right : begun_of 3 (part 6 11 (whole_of a)) ≡ Some (bits 8)
  unfolding number number_at begun_of transport_of good_length whole_fits need transport_size octets_of_bits
  whole-right = refl

  pub whole-starts : Starts (whole_of a) (bits 8)
  whole-starts = record { undamaged = whole-intact; starting = rw (← whole-head) (inr refl); right = rw (← whole-head) whole-right }

  module _ {c : ℕ} (xs : List Slot) where
    pub whole-opens : file_from 0 (channel_of c) (record { 0 = a }) xs ≡ None → {k : ℕ} → free_from 0 xs ≡ Some k → need 8 ≤ 7 - needs xs
        → MakesOneOn c xs (whole_of a) (set xs k (file_on c a 8 0)) (at 10 a k ∷ at 12 a k ∷ [])
    whole-opens none free fits =
        makes-open (whole_of a) (part 6 11 (whole_of a)) (head_of a 3 0 12) whole-head refl xs whole-intact (inr refl) whole-right none free fits

    -- where the file in slot j is abandoned
    pub whole-over : (j : ℕ) → file_from 0 (channel_of c) (record { 0 = a }) xs ≡ Some j → {k : ℕ} → free_from 0 (set xs j no_file) ≡ Some k
        → need 8 ≤ 7 - needs (set xs j no_file)
        → MakesOneOn c xs (whole_of a) (set (set xs j no_file) k (file_on c a 8 0)) (at 6 a j ∷ at 10 a k ∷ at 12 a k ∷ [])
    whole-over j here free fits =
        makes-over (whole_of a) (part 6 11 (whole_of a)) (head_of a 3 0 12) whole-head refl xs whole-intact (inr refl) whole-right here free fits

-- a whole packet of application 5 for a file with counter m and L bits: how it is read, and what it makes of a station without files
pub record Alone (p : List ℕ) (m L l : ℕ) : Type 0 where
  pub head : head_of 5 3 0 l ≡ packet_of p
  pub starts : Starts p (numbered m L)
  pub opens : MakesOne (replicate 32 no_file) p (file_at 5 L 0 ∷ replicate 31 no_file) (at 10 5 0 ∷ at 12 5 0 ∷ [])
  pub cuts : (n : ℕ) → 9 ≤ n → n ≤ 884 → split (p ++ fill n) ≡ cut (p ∷ fill n ∷ []) []

-- one with the header of length l, behind which stands xs
alone : (l : ℕ) → 2 ≤ l → l ≤ 8191 → (xs : List ℕ) → let p = six_of 0 5 3 0 l ++ xs in (m L : ℕ) → begun_of 3 (data_of p) ≡ Some (numbered m L)
    → need L ≤ 7 → eqb (crc_of (data_of p)) (check_of p) ≡ true → length p ≡ 7 + l → Alone p m L l
unfolding file_from free_from of_pair incomplete held needs
alone l two ls xs m L right fits check size =
    let p = six_of 0 5 3 0 l ++ xs in
    let head : head_of 5 3 0 l ≡ packet_of p = whole_is 5 l (omega arith) two ls xs in
    let intact : Undamaged p = record { file = rw (← head) (omega arith); intact = check } in
    record {
      head = head;
      starts = record { undamaged = intact; starting = rw (← head) (inr refl); right = rw (← head) right };
      opens = makes-open p (data_of p) (head_of 5 3 0 l) head refl (replicate 32 no_file) intact (inr refl) {t = numbered m L} right refl refl (omega arith);
      cuts = λ n some most. one-cut n some most p (whole-look 5 l (omega arith) two ls (xs ++ fill n)) size;
    }

-- that of a file that is all header, and that of a file of 12 bits
pub written : Alone header_alone 0 128 27 × Alone twelve_bits 258 12 13
unfolding crc_of crc_from octet shifted bit number number_at begun_of transport_of good_length whole_fits need transport_size octets_of_bits
written = (
  alone 27 (omega arith) (omega arith) (drop 6 header_alone) 0 128 refl (omega arith) refl refl,
  alone 13 (omega arith) (omega arith) (drop 6 twelve_bits) 258 12 refl (omega arith) refl refl,
)

-- packets that touch no file: a wrong check, a reserved application, and a first packet of one octet
pub odd-cuts : split (damaged ++ (reserved ++ (tiny 1 5 0 ++ fill 856))) ≡ cut (damaged ∷ reserved ∷ tiny 1 5 0 ∷ fill 856 ∷ []) []
odd-cuts =
    one-before damaged (reserved ++ (tiny 1 5 0 ++ fill 856)) (reserved ∷ tiny 1 5 0 ∷ fill 856 ∷ [])
    (header-look 0 5 5 2 0 2 (omega arith) (omega arith) (omega arith) (omega arith) (omega arith) (omega arith) (omega arith)
    (drop 6 damaged ++ (reserved ++ (tiny 1 5 0 ++ fill 856)))) refl
    (one-before reserved (tiny 1 5 0 ++ fill 856) (tiny 1 5 0 ∷ fill 856 ∷ [])
    (header-look 7 0xe0 2016 3 0 3 (omega arith) (omega arith) (omega arith) (omega arith) (omega arith) (omega arith) (omega arith)
    (drop 6 reserved ++ (tiny 1 5 0 ++ fill 856))) refl
    (one-before (tiny 1 5 0) (fill 856) (fill 856 ∷ [])
    (header-look 0 5 5 1 0 2 (omega arith) (omega arith) (omega arith) (omega arith) (omega arith) (omega arith) (omega arith)
    (drop 6 (tiny 1 5 0) ++ fill 856)) refl
    (fill-cuts 856 (omega arith) (omega arith))))

module _ {c : ℕ} (xs : List Slot) where
  pub damaged-makes : MakesOneOn c xs damaged xs (of 4 5 ∷ [])
  unfolding crc_of crc_from octet shifted bit number_at number
  damaged-makes =
      makes-damaged damaged (0xff ∷ []) (head_of 5 2 0 2)
      (sym (header_is 0 5 5 2 0 2 (omega arith) (omega arith) (omega arith) (omega arith) (omega arith) (omega arith) (omega arith) (drop 6 damaged)))
      refl xs (omega arith) refl

  pub reserved-makes : MakesOneOn c xs reserved xs (of 13 2016 ∷ [])
  reserved-makes =
      makes-other reserved (data_of reserved) (head_of 2016 3 0 3)
      (sym (header_is 7 0xe0 2016 3 0 3 (omega arith) (omega arith) (omega arith) (omega arith) (omega arith) (omega arith) (omega arith) (drop 6 reserved)))
      refl xs (omega arith) (omega arith)

  pub ill-makes : file_from 0 (channel_of c) (record { 0 = 5 }) xs ≡ None → MakesOneOn c xs (tiny 1 5 0) xs (of 7 5 ∷ [])
  unfolding crc_of crc_from octet shifted bit number_at number begun_of
  ill-makes none =
      let head : head_of 5 1 0 2 ≡ packet_of (tiny 1 5 0) =
      sym (header_is 0 5 5 1 0 2 (omega arith) (omega arith) (omega arith) (omega arith) (omega arith) (omega arith) (omega arith) (drop 6 (tiny 1 5 0))) in
      makes-wrong (tiny 1 5 0) (0xff ∷ []) (head_of 5 1 0 2) head refl xs (record { file = rw (← head) (omega arith); intact = refl }) (inl refl) refl none
