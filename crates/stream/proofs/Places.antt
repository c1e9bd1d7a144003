-- The stream by the places of its frames: that it is so, and in one way only. Assumes nothing.
use mathlib.Core.Path.{◌≡◌, refl, sym, ap, ap₂, ◌∙◌}
use mathlib.Core.Bool.{true, false, true≢false}
use mathlib.Core.List.{List, [], ◌∷◌, ◌++◌, map}
use mathlib.Core.Logic.{inl, inr, ⊎_elim}
use Prim.Native.Nat.{ℕ, suc, ◌+◌, ◌*◌, ◌^◌, ◌≤◌, ◌<◌}
use native.Mathlib.Nat.{add-zero}
use native.Mathlib.Numerals.{add-one}
use native.Mathlib.Decide.{dec_lt}
use native.Mathlib.Omega.{arith}
use lib.Bits.{bit_xor, xor_block, xor_lt, xor_add_and, and_le_l, and_le_r}
use lib.Count.{ones, ones_cat}
use lib.ListN.{length, take, drop, get_or, length-drop}
use lib.Seq.{drop-drop, get_or-drop}
use Rattle.octets.specs.Number.{Octets, part, number}
use Rattle.octets.specs.Choice.{Decides}
use Rattle.octets.proofs.Decide.{decides-leb, decides-same, tells, told-true}
use Rattle.octets.proofs.Lists.{drop-take, part-add}
use Rattle.octets.proofs.Numbers.{octets-drop}
use Rattle.frame.specs.Header.{marker}
use Rattle.stream.specs.Stream.{wrong_bits, is_marker, Piece, Cuts, frames_in, righted, frames_of, waiting_of}
use Rattle.stream.specs.Stream.Cuts.{waits, passes, whole}
use Rattle.stream.specs.Plainly.{wrong_in, MarkerAt, NoMarker, FramesAt, frame_at, StreamPlainly}
use Rattle.stream.specs.Plainly.FramesAt.{next, begun, none}
use Rattle.stream.proofs.Cutting.{waits-is, passes-is, whole_is, cuts}
use Rattle.stream.proofs.Seeking.{ones-zero}

-- ---- wrong bits, octet by octet

wrong-two : (x m d e : ℕ) → d < 256 → e < 256 → ones (bit_xor (x * 2 ^ 8 + d) (m * 2 ^ 8 + e)) ≡ ones (bit_xor x m) + wrong_in d e
wrong-two x m d e h l = ap ones (xor_block 8 x m d e h l) ∙ ones_cat 8 (bit_xor x m) (bit_xor d e) (xor_lt 8 d e h l)

pub wrong-octets : (a b c d : ℕ) (xs : List ℕ) → b < 256 → c < 256 → d < 256
    → wrong_bits (a ∷ b ∷ c ∷ d ∷ xs) ≡ wrong_in a 0x1a + wrong_in b 0xcf + wrong_in c 0xfc + wrong_in d 0x1d
unfolding wrong_bits number
wrong-octets a b c d xs hb hc hd =
    let n : number (a ∷ b ∷ c ∷ d ∷ []) ≡ ((a * 2 ^ 8 + b) * 2 ^ 8 + c) * 2 ^ 8 + d = omega arith in
    let r : ((0x1a * 2 ^ 8 + 0xcf) * 2 ^ 8 + 0xfc) * 2 ^ 8 + 0x1d ≡ number marker = refl in
    ap (λ (v : ℕ). ones (bit_xor v (number marker))) n
    ∙ wrong-two ((a * 2 ^ 8 + b) * 2 ^ 8 + c) ((0x1a * 2 ^ 8 + 0xcf) * 2 ^ 8 + 0xfc) d 0x1d hd (omega arith)
    ∙ ap (λ (v : ℕ). v + wrong_in d 0x1d)
    (wrong-two (a * 2 ^ 8 + b) (0x1a * 2 ^ 8 + 0xcf) c 0xfc hc (omega arith)
    ∙ ap (λ (v : ℕ). v + wrong_in c 0xfc) (wrong-two a 0x1a b 0xcf hb (omega arith)))

wrong-front : (ys : List ℕ) → 4 ≤ length ys → Octets ys
    → wrong_bits ys ≡ wrong_in (get_or ys 0 0) 0x1a + wrong_in (get_or ys 1 0) 0xcf + wrong_in (get_or ys 2 0) 0xfc + wrong_in (get_or ys 3 0) 0x1d
wrong-front [] h o = absurd (omega arith)
wrong-front (a ∷ []) h o = absurd (omega arith)
wrong-front (a ∷ b ∷ []) h o = absurd (omega arith)
wrong-front (a ∷ b ∷ c ∷ []) h o = absurd (omega arith)
wrong-front (a ∷ b ∷ c ∷ d ∷ ys) h o = wrong-octets a b c d ys (o 1) (o 2) (o 3)

first-there : (xs : List ℕ) (p : ℕ) → get_or (drop p xs) 0 0 ≡ get_or xs p 0
first-there xs p = get_or-drop p xs 0 0 ∙ ap (λ (n : ℕ). get_or xs n 0) (add-zero p)

module _ (k : ℕ) (xs : List ℕ) (o : Octets xs) where
  wrong-at : (p : ℕ) → p + 4 ≤ length xs
      → wrong_bits (drop p xs) ≡ wrong_in (get_or xs p 0) 0x1a + wrong_in (get_or xs (p + 1) 0) 0xcf + wrong_in (get_or xs (p + 2) 0) 0xfc + wrong_in (get_or xs (p + 3) 0) 0x1d
  wrong-at p h =
      let l : 4 ≤ length (drop p xs) = omega (arith, length-drop p xs) in
      let e : get_or (drop p xs) 0 0 ≡ get_or xs p 0 = first-there xs p in
      wrong-front (drop p xs) l (octets-drop xs p o)
      ∙ (λ i. wrong_in (e i) 0x1a + wrong_in (get_or-drop p xs 1 0 i) 0xcf + wrong_in (get_or-drop p xs 2 0 i) 0xfc + wrong_in (get_or-drop p xs 3 0 i) 0x1d)

  -- the test of the definition, at a place of the stream
  pub decides-marker : (p : ℕ) → p + 4 ≤ length xs → Decides (MarkerAt k xs p) (is_marker k (drop p xs))
  unfolding is_marker
  decides-marker p h =
      let e = wrong-at p h in
      decides-same (λ l. record { there = h; close = omega (arith, e, l) }) (λ m. omega (arith, e, m.close)) (decides-leb (wrong_bits (drop p xs)) k)

  -- a place that is passed over, and one that is not
  unmarked : (p : ℕ) → is_marker k (drop p xs) ≡ false → MarkerAt k xs p → ⊥
  unmarked p e m = true≢false (sym (tells (decides-marker p m.there) m) ∙ e)

  -- ---- the places that a cut stream has

  record Placed (n : ℕ) (ps : List Piece) (w : List ℕ) : Type 0 where
    pub places : List ℕ
    pub rest : ℕ
    pub stands : FramesAt k xs n places rest
    pub frames : frames_in ps ≡ map (frame_at xs) places
    pub waiting : w ≡ drop rest xs

  no_more : (n b : ℕ) → (MarkerAt k xs n → ⊥) → NoMarker k xs (suc n) b → NoMarker k xs n b
  no_more n b h f q a l m =
      elim (dec_lt n q) [
        | yes d ↦ f q d l m
        | no d ↦
            let e : q ≡ n = omega arith in
            h (rw e at m)
      ]

  widen : {n : ℕ} {ps : List ℕ} {w : ℕ} → n + 4 ≤ length xs → (MarkerAt k xs n → ⊥) → FramesAt k xs (suc n) ps w → FramesAt k xs n ps w
  widen {n} h u (next p a f m l r) = next {a = n} p (omega arith) (no_more n p u f) m l r
  widen {n} h u (begun w a f m l) = begun {a = n} w (omega arith) (no_more n w u f) m l
  widen {n} h u (none w a f e) = none {a = n} w (omega arith) (no_more n (length xs) u f) (⊎_elim (λ q. inl q) (λ (q, l). inl (omega arith)) e)

  frame_is : (n : ℕ) → righted (take 1024 (drop n xs)) ≡ frame_at xs n
  unfolding righted
  frame_is n = ap (λ (ys : List ℕ). marker ++ ys) (drop-take 4 1020 (drop n xs) ∙ ap (take 1020) (drop-drop 4 n xs))

  few-left : (n : ℕ) → n ≤ length xs → length (drop n xs) < 4 → FramesAt k xs n [] n
  few-left n l h =
      let f = length-drop n xs in
      none {a = n} n (omega arith) (λ q a b m. omega (arith, m.there)) (elim (dec_lt (length xs) (n + 3)) [ yes d ↦ inr (refl, d) | no d ↦ inl (omega arith) ])

  part_left : (n : ℕ) → n ≤ length xs → length (drop n xs) < 1024 → 4 ≤ length (drop n xs) → is_marker k (drop n xs) ≡ true → FramesAt k xs n [] n
  part_left n l s h m =
      let f = length-drop n xs in
      begun {a = n} n (omega arith) (λ q a b. absurd (omega arith)) (told-true (decides-marker n (omega arith)) m) (omega arith)

  placed : {ys : List ℕ} {ps : List Piece} {w : List ℕ} → Cuts k ys ps w → (n : ℕ) → ys ≡ drop n xs → n ≤ length xs → Placed n ps w
  placed {ys} (waits e) n q l =
      let (s, m) = waits-is k (drop n xs) (rw q at e) in
      record {
        places = [];
        rest = n;
        stands = ⊎_elim (λ h. few-left n l h) (λ (h, t). part_left n l s h t) m;
        frames = refl;
        waiting = q;
      }
  placed {ys} (passes e c) n q l =
      let (h, m) = passes-is k (drop n xs) (rw q at e) in
      let f = length-drop n xs in
      let r = placed c (suc n) (ap (drop 1) q ∙ drop-drop 1 n xs ∙ rw add-one) (omega arith) in
      record {
        places = r.places;
        rest = r.rest;
        stands = widen (omega arith) (unmarked n m) r.stands;
        frames = r.frames;
        waiting = r.waiting;
      }
  placed {ys} (whole e c) n q l =
      let (h, m) = whole_is k (drop n xs) (rw q at e) in
      let f = length-drop n xs in
      let r = placed c (n + 1024) (ap (drop 1024) q ∙ drop-drop 1024 n xs) (omega arith) in
      record {
        places = n ∷ r.places;
        rest = r.rest;
        stands = next {a = n} n (omega arith) (λ p a b. absurd (omega arith)) (told-true (decides-marker n (omega arith)) m) (omega arith) r.stands;
        frames = ap₂ ◌∷◌ (ap (λ (ys : List ℕ). righted (take 1024 ys)) q ∙ frame_is n) r.frames;
        waiting = r.waiting;
      }

  pub stream-plainly : StreamPlainly k xs
  unfolding frames_of waiting_of
  stream-plainly =
      let r = placed (cuts k xs) 0 refl (omega arith) in
      record { places = r.places; rest = r.rest; stands = r.stands; frames = r.frames; waiting = r.waiting }

-- ---- no other places are so

module _ (k : ℕ) (xs : List ℕ) where
  -- the first marker is at one place
  first-once : (a p q : ℕ) → a ≤ p → a ≤ q → NoMarker k xs a p → NoMarker k xs a q → MarkerAt k xs p → MarkerAt k xs q → p ≡ q
  first-once a p q h l f g m n =
      elim (dec_lt p q) [
        | yes d ↦ absurd (g p h d m)
        | no d ↦ elim (dec_lt q p) [ yes e ↦ absurd (f q l e n) | no e ↦ omega arith ]
      ]

  -- a marker lies before the end
  before-end : {p : ℕ} → MarkerAt k xs p → p < length xs
  before-end m = omega (arith, m.there)

  pub places-once : {a w v : ℕ} {ps qs : List ℕ} → FramesAt k xs a ps w → FramesAt k xs a qs v → (ps ≡ qs) × (w ≡ v)
  places-once {a} (next p h f m l r) (next q h₂ g n l₂ s) =
      let e : p ≡ q = first-once a p q h h₂ f g m n in
      let t : p + 1024 ≡ q + 1024 = omega arith in
      let (c, d) = places-once (rw t at r) s in
      (ap₂ ◌∷◌ e c, d)
  places-once {a} (next p h f m l r) (begun q h₂ g n l₂) =
      let e = first-once a p q h h₂ f g m n in
      absurd (omega arith)
  places-once (next p h f m l r) (none q h₂ g e) = absurd (g p h (before-end m) m)
  places-once {a} (begun p h f m l) (next q h₂ g n l₂ s) =
      let e = first-once a p q h h₂ f g m n in
      absurd (omega arith)
  places-once {a} (begun p h f m l) (begun q h₂ g n l₂) = (refl, first-once a p q h h₂ f g m n)
  places-once (begun p h f m l) (none q h₂ g e) = absurd (g p h (before-end m) m)
  places-once (none p h f e) (next q h₂ g n l₂ s) = absurd (f q h₂ (before-end n) n)
  places-once (none p h f e) (begun q h₂ g n l₂) = absurd (f q h₂ (before-end n) n)
  places-once (none p h f e) (none q h₂ g d) =
      (refl, ⊎_elim (λ i. ⊎_elim (λ j. omega arith) (λ (j, t). omega arith) d) (λ (i, s). ⊎_elim (λ j. omega arith) (λ (j, t). omega arith) d) e)

-- ---- no wrong bit: the marker itself

xor_same : (a b : ℕ) → bit_xor a b ≡ 0 → a ≡ b
xor_same a b e = omega (arith, xor_add_and a b, and_le_l a b, and_le_r a b)

pub no-wrong : (a b : ℕ) → wrong_in a b ≡ 0 → a ≡ b
no-wrong a b e = xor_same a b (ones-zero (bit_xor a b) (bit_xor a b) (omega arith) e)

exact : (xs : List ℕ) (p : ℕ) → MarkerAt 0 xs p → p + 1024 ≤ length xs → frame_at xs p ≡ part p 1024 xs
exact xs p m h =
    let c = m.close in
    let front : part p 4 xs ≡ 0x1a ∷ 0xcf ∷ 0xfc ∷ 0x1d ∷ [] = rights (drop p xs) (omega (arith, length-drop p xs))
    (first-there xs p ∙ no-wrong (get_or xs p 0) 0x1a (omega arith)) (get_or-drop p xs 1 0 ∙ no-wrong (get_or xs (p + 1) 0) 0xcf (omega arith))
    (get_or-drop p xs 2 0 ∙ no-wrong (get_or xs (p + 2) 0) 0xfc (omega arith)) (get_or-drop p xs 3 0 ∙ no-wrong (get_or xs (p + 3) 0) 0x1d (omega arith)) in
    ap (λ (ys : List ℕ). ys ++ part (p + 4) 1020 xs) (sym front) ∙ sym (part-add xs p 4 1020)
  where
    rights : (ys : List ℕ) → 4 ≤ length ys → get_or ys 0 0 ≡ 0x1a → get_or ys 1 0 ≡ 0xcf → get_or ys 2 0 ≡ 0xfc → get_or ys 3 0 ≡ 0x1d
        → take 4 ys ≡ 0x1a ∷ 0xcf ∷ 0xfc ∷ 0x1d ∷ []
    rights [] h a b c d = absurd (omega arith)
    rights (w ∷ []) h a b c d = absurd (omega arith)
    rights (w ∷ x ∷ []) h a b c d = absurd (omega arith)
    rights (w ∷ x ∷ y ∷ []) h a b c d = absurd (omega arith)
    rights (w ∷ x ∷ y ∷ z ∷ ys) h a b c d = λ i. a i ∷ b i ∷ c i ∷ d i ∷ []

pub all-exact : (xs : List ℕ) {a w : ℕ} {ps : List ℕ} → FramesAt 0 xs a ps w → map (frame_at xs) ps ≡ map (λ (p : ℕ). part p 1024 xs) ps
all-exact xs (next p h f m l r) = ap₂ ◌∷◌ (exact xs p m l) (all-exact xs r)
all-exact xs (begun w h f m l) = refl
all-exact xs (none w h f e) = refl
