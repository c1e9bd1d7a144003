-- How a stream is cut: it can be, in one way only, and what is cut of its first part is cut of the whole. Assumes nothing.
use mathlib.Core.Path.{◌≡◌, refl, sym, ap, ◌∙◌, subst}
use mathlib.Core.Bool.{true, false, not}
use mathlib.Core.List.{List, ◌∷◌, ◌++◌, append_assoc}
use mathlib.Core.Logic.{◌⊎◌, inl, inr}
use Prim.Native.Nat.{ℕ, zero, suc, ◌+◌, ◌*◌, ◌≤◌, ◌<◌}
use native.Mathlib.Omega.{arith}
use lib.Dec.{ltb}
use lib.ListN.{length, take, drop, get_or, length-append, length-drop, take-append-drop, get_or-append}
use lib.Seq.{take-append-le, drop-append-le, drop-cons}
use borrow.Author.Tests.{lt-ltb, le-ltb, ltb-true, ltb-false, not-true, not-false}
use Rattle.octets.proofs.Lists.{if-cases}
use Rattle.stream.specs.Stream.{is_marker, wrong_bits, Here, here, Piece, Cuts, cut_in, cut, frames_in, octets_in, over_in}
use Rattle.stream.specs.Stream.Here.{Waits, Passes, Whole}
use Rattle.stream.specs.Stream.Piece.{over, frame}
use Rattle.stream.specs.Stream.Cuts.{waits, passes, whole}

-- ---- a place, by its cases

-- what is known of the octets from a place on, by what is done there
abbrev pub Known : ℕ → List ℕ → Here → Type 0
Known k xs Waits = (length xs < 1024) × ((length xs < 4) ⊎ ((4 ≤ length xs) × (is_marker k xs ≡ true)))
Known k xs Passes = (4 ≤ length xs) × (is_marker k xs ≡ false)
Known k xs Whole = (1024 ≤ length xs) × (is_marker k xs ≡ true)

known : (k : ℕ) (xs : List ℕ) → Known k xs (here k xs)
unfolding here
known k xs =
    if-cases (Known k xs) (ltb (length xs) 4) (λ e. (omega (arith, ltb-true (length xs) 4 e), inl (ltb-true _ _ e)))
    (λ e. if-cases (Known k xs) (not (is_marker k xs)) (λ m. (ltb-false _ _ e, not-true _ m))
    (λ m. if-cases (Known k xs) (ltb (length xs) 1024) (λ l. (ltb-true _ _ l, inr (ltb-false _ _ e, not-false _ m))) (λ l. (ltb-false _ _ l, not-false _ m))))

-- no place is two of these
pub waits-passes : {l : Here} → l ≡ Waits → l ≡ Passes → ⊥
waits-passes e d =
    let z : ◌≡◌ {A = ℕ} 0 1 = cc in
    omega arith

pub waits-whole : {l : Here} → l ≡ Waits → l ≡ Whole → ⊥
waits-whole e d =
    let z : ◌≡◌ {A = ℕ} 0 1 = cc in
    omega arith

pub whole-passes : {l : Here} → l ≡ Whole → l ≡ Passes → ⊥
whole-passes e d =
    let z : ◌≡◌ {A = ℕ} 0 1 = cc in
    omega arith

module _ (k : ℕ) where
  module _ (xs : List ℕ) where
    pub waits-is : here k xs ≡ Waits → Known k xs Waits
    waits-is e = subst (Known k xs) e (known k xs)

    pub passes-is : here k xs ≡ Passes → Known k xs Passes
    passes-is e = subst (Known k xs) e (known k xs)

    pub whole_is : here k xs ≡ Whole → Known k xs Whole
    whole_is e = subst (Known k xs) e (known k xs)

    pub is-passes : 4 ≤ length xs → is_marker k xs ≡ false → here k xs ≡ Passes
    unfolding here
    is-passes h m = rw (le-ltb (length xs) 4 h, m)

    pub is_whole : is_marker k xs ≡ true → 1024 ≤ length xs → here k xs ≡ Whole
    unfolding here
    is_whole m h =
        let f : 4 ≤ length xs = omega arith in
        rw (le-ltb (length xs) 4 f, m, le-ltb (length xs) 1024 h)

    pub is-few : length xs < 4 → here k xs ≡ Waits
    unfolding here
    is-few h = rw (lt-ltb (length xs) 4 h)

    pub is-part : 4 ≤ length xs → is_marker k xs ≡ true → length xs < 1024 → here k xs ≡ Waits
    unfolding here
    is-part f m h = rw (le-ltb (length xs) 4 f, m, lt-ltb (length xs) 1024 h)

  -- only the first four octets tell whether there is a marker
  pub marked_append : (xs ys : List ℕ) → 4 ≤ length xs → is_marker k (xs ++ ys) ≡ is_marker k xs
  unfolding is_marker wrong_bits
  marked_append xs ys h = rw (take-append-le 4 xs ys h)

  -- more octets behind: what is passed over and what is whole stays so
  pub passes_append : (xs ys : List ℕ) → here k xs ≡ Passes → here k (xs ++ ys) ≡ Passes
  passes_append xs ys e =
      let (f, m) = passes-is xs e in
      is-passes (xs ++ ys) (omega (arith, length-append xs ys)) (marked_append xs ys f ∙ m)

  pub whole_append : (xs ys : List ℕ) → here k xs ≡ Whole → here k (xs ++ ys) ≡ Whole
  whole_append xs ys e =
      let (f, m) = whole_is xs e in
      is_whole (xs ++ ys) (marked_append xs ys (omega arith) ∙ m) (omega (arith, length-append xs ys))

  -- ---- the division law

  passes-to : {xs rest : List ℕ} {x : ℕ} {ps : List Piece} {w : List ℕ} → here k xs ≡ Passes → rest ≡ drop 1 xs → x ≡ get_or xs 0 0
      → Cuts k rest ps w → Cuts k xs (over x ∷ ps) w
  passes-to e r q c = rw q (passes e (rw r at c))

  whole_to : {xs rest f : List ℕ} {ps : List Piece} {w : List ℕ} → here k xs ≡ Whole → rest ≡ drop 1024 xs → f ≡ take 1024 xs
      → Cuts k rest ps w → Cuts k xs (frame f ∷ ps) w
  whole_to e r q c = rw q (whole e (rw r at c))

  pub division : {xs : List ℕ} {ps : List Piece} {w : List ℕ} (ys : List ℕ) {qs : List Piece} {v : List ℕ}
      → Cuts k xs ps w → Cuts k (w ++ ys) qs v → Cuts k (xs ++ ys) (ps ++ qs) v
  division ys (waits e) d = d
  division {xs} ys (passes e c) d =
      let (f, m) = passes-is xs e in
      passes-to (passes_append xs ys e) (sym (drop-append-le 1 xs ys (omega arith))) (sym (get_or-append xs ys 0 0 (omega arith)))
      (division ys c d)
  division {xs} ys (whole e c) d =
      let (f, m) = whole_is xs e in
      whole_to (whole_append xs ys e) (sym (drop-append-le 1024 xs ys f)) (sym (take-append-le 1024 xs ys f)) (division ys c d)

  -- ---- a stream is cut in one way only

  pub one_way : {xs : List ℕ} {ps qs : List Piece} {w v : List ℕ} → Cuts k xs ps w → Cuts k xs qs v → (ps ≡ qs) × (w ≡ v)
  one_way (waits e) (waits d) = (refl, refl)
  one_way (waits e) (passes d c) = absurd (waits-passes e d)
  one_way (waits e) (whole d c) = absurd (waits-whole e d)
  one_way (passes e c) (waits d) = absurd (waits-passes d e)
  one_way {xs} (passes e c) (passes d b) =
      let (p, q) = one_way c b in
      (ap (λ (ps : List Piece). over (get_or xs 0 0) ∷ ps) p, q)
  one_way (passes e c) (whole d b) = absurd (whole-passes d e)
  one_way (whole e c) (waits d) = absurd (waits-whole d e)
  one_way (whole e c) (passes d b) = absurd (whole-passes e d)
  one_way {xs} (whole e c) (whole d b) =
      let (p, q) = one_way c b in
      (ap (λ (ps : List Piece). frame (take 1024 xs) ∷ ps) p, q)

  -- ---- a stream is cut in some way: the functions do it

  cuts-in : (n : ℕ) (xs : List ℕ) → length xs < n → Cuts k xs (cut_in n k xs).pieces (cut_in n k xs).waiting
  unfolding cut_in
  cuts-in zero xs h = absurd (omega arith)
  cuts-in (suc n) xs h = go (here k xs) refl (λ f. cuts-in n (drop 1 xs) (omega (arith, length-drop 1 xs))) (λ f. cuts-in n (drop 1024 xs) (omega (arith, length-drop 1024 xs)))
    where
      go : (l : Here) → here k xs ≡ l
          → (4 ≤ length xs → Cuts k (drop 1 xs) (cut_in n k (drop 1 xs)).pieces (cut_in n k (drop 1 xs)).waiting)
          → (1024 ≤ length xs → Cuts k (drop 1024 xs) (cut_in n k (drop 1024 xs)).pieces (cut_in n k (drop 1024 xs)).waiting)
          → Cuts k xs (cut_in (suc n) k xs).pieces (cut_in (suc n) k xs).waiting
      go Waits e f g = rw (e, cut_in) (waits e)
      go Passes e f g = rw (e, cut_in) (passes e (f (passes-is xs e).0))
      go Whole e f g = rw (e, cut_in) (whole e (g (whole_is xs e).0))

  pub cuts : (xs : List ℕ) → Cuts k xs (cut k xs).pieces (cut k xs).waiting
  unfolding cut
  cuts xs = cuts-in (suc (length xs)) xs (omega arith)

  -- so what is cut is what the functions say
  pub cut-is : {xs : List ℕ} {ps : List Piece} {w : List ℕ} → Cuts k xs ps w → ((cut k xs).pieces ≡ ps) × ((cut k xs).waiting ≡ w)
  cut-is {xs} c = one_way (cuts xs) c

  -- ---- nothing is lost and nothing made up

  pub joined : {xs : List ℕ} {ps : List Piece} {w : List ℕ} → Cuts k xs ps w → octets_in ps ++ w ≡ xs
  joined (waits e) = refl
  joined {xs} (passes e c) =
      let (f, m) = passes-is xs e in
      let l : 0 < length xs = omega arith in
      ap (λ (ys : List ℕ). get_or xs 0 0 ∷ ys) (joined c) ∙ sym (drop-cons xs 0 0 l)
  joined {xs} (whole e c) = rw append_assoc (ap (λ (ys : List ℕ). take 1024 xs ++ ys) (joined c) ∙ take-append-drop 1024 xs)

  -- what waits is cut no further
  pub still : {xs : List ℕ} {ps : List Piece} {w : List ℕ} → Cuts k xs ps w → here k w ≡ Waits
  still (waits e) = e
  still (passes e c) = still c
  still (whole e c) = still c

-- ---- the octets passed over, the frames and what waits, counted

pub counted : {k : ℕ} {xs : List ℕ} {ps : List Piece} {w : List ℕ} → Cuts k xs ps w → over_in ps + 1024 * length (frames_in ps) + length w ≡ length xs
counted (waits e) = omega arith
counted {k} {xs} (passes e c) = omega (arith, counted c, length-drop 1 xs, (passes-is k xs e).0)
counted {k} {xs} (whole e c) = omega (arith, counted c, length-drop 1024 xs, (whole_is k xs e).0)
