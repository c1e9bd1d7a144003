-- The search goes by stretches, and passes over a quiet one: in a marker with at most three wrong bits one octet at least is right. Assumes nothing.
use mathlib.Core.Path.{◌≡◌, refl, sym, ap, ◌∙◌}
use mathlib.Core.Bool.{Bool, true, false, not, ◌&&◌, ◌||◌, and-true, or_assoc, true≢false}
use mathlib.Core.List.{List, [], ◌∷◌, ◌++◌}
use Prim.Native.Nat.{ℕ, suc, ◌+◌, ◌-◌, ◌*◌, ◌%◌, ◌^◌, ◌≤◌, ◌<◌}
use native.Mathlib.Nat.{add-zero}
use native.Mathlib.Numerals.{add-one}
use native.Mathlib.Omega.{arith}
use borrow.Author.Tests.{lt-leb, not-true}
use lib.Bits.{bit_xor}
use lib.Count.{ones}
use lib.Dec.{eqb}
use lib.ListN.{length, take, drop, get_or, length-drop, take-append-drop, drop_of_length-le}
use lib.Seq.{drop-cons, drop-drop, take_all, take-take}
use Rattle.octets.specs.Number.{Octets, part, number, number_at}
use Rattle.octets.proofs.Lists.{whole_part, part-part}
use Rattle.octets.proofs.Numbers.{octets-part}
use Rattle.octets.proofs.Tests.{and_left, and_right}
use Rattle.stream.specs.declared.Sought.{Sought}
use Rattle.stream.specs.declared.Sought.TheVariants.{At, Nowhere}
use Rattle.stream.specs.Stream.{wrong_bits}
use Rattle.stream.specs.Plainly.{wrong_in}
use Rattle.stream.specs.Seek.{near, moved, sought_in, in_marker, quiet}
use Rattle.stream.proofs.Seeking.{sought-hit, sought-miss, shift, shift-low, ones-more}
use Rattle.stream.proofs.Places.{wrong-octets, no-wrong}

-- ---- whether octets are quiet: the loop

turned : (z a b c d q : Bool) → (not z && (not (a || (b || (c || d))) && q)) ≡ (not (z || (((a || b) || c) || d)) && q)
turned true a b c d q = refl
turned false a b c d q = rw (or_assoc (a || b) c d, or_assoc a b (c || d))

module _ (s : List ℕ) (goal any : Bool) (i : ℕ) (e : goal ≡ (not any && quiet (drop i s))) where
  pub quiet-more : i < length s
      → goal ≡ (not (any || (((eqb (get_or s i 0) 0x1a || eqb (get_or s i 0) 0xcf) || eqb (get_or s i 0) 0xfc) || eqb (get_or s i 0) 0x1d)) && quiet (drop (i + 1) s))
  unfolding quiet
  quiet-more h =
      e ∙ rw (drop-cons s i 0 h, add-one) (turned any (eqb (get_or s i 0) 0x1a) (eqb (get_or s i 0) 0xcf) (eqb (get_or s i 0) 0xfc) (eqb (get_or s i 0) 0x1d) (quiet (drop (suc i) s)))

  pub quiet-end : length s ≤ i → not any ≡ goal
  unfolding quiet
  quiet-end h = sym (e ∙ rw (drop_of_length-le s h, and-true))

-- ---- one stretch behind the other

-- what is sought behind a stretch, by what was found in it
abbrev onward : ℕ → ℕ → List ℕ → Sought → Sought
onward k i ys (At n w) = At n w
onward k i ys (Nowhere w) = sought_in k i w ys

sought-append : (k i v : ℕ) (xs ys : List ℕ) → sought_in k i v (xs ++ ys) ≡ onward k (i + length xs) ys (sought_in k i v xs)
unfolding sought_in
sought-append k i v [] ys = ap (λ (j : ℕ). sought_in k j v ys) (sym (add-zero i))
sought-append k i v (x ∷ xs) ys = go (near k (moved v x)) refl (sought-append k (suc i) (moved v x) xs ys)
  where
    go : (t : Bool) → near k (moved v x) ≡ t → sought_in k (suc i) (moved v x) (xs ++ ys) ≡ onward k (suc i + length xs) ys (sought_in k (suc i) (moved v x) xs)
        → sought_in k i v (x ∷ xs ++ ys) ≡ onward k (i + suc (length xs)) ys (sought_in k i v (x ∷ xs))
    go true n r = sought-hit k i v x (xs ++ ys) n ∙ sym (ap (onward k (i + suc (length xs)) ys) (sought-hit k i v x xs n))
    go false n r =
        let p : suc i + length xs ≡ i + suc (length xs) = omega arith in
        sought-miss k i v x (xs ++ ys) n ∙ r ∙ ap (λ (j : ℕ). onward k j ys (sought_in k (suc i) (moved v x) xs)) p
        ∙ sym (ap (onward k (i + suc (length xs)) ys) (sought-miss k i v x xs n))

-- the loop over stretches of n octets: one that finds, one that does not, and what is left
module _ (xs : List ℕ) (k i v : ℕ) {goal r : Sought} (e : goal ≡ sought_in k i v (drop i xs)) where
  module _ (n : ℕ) (h : i + n ≤ length xs) (q : r ≡ sought_in k i v (part i n xs)) where
    stretched : goal ≡ onward k (i + n) (drop (i + n) xs) r
    stretched =
        e ∙ ap (sought_in k i v) (sym (take-append-drop n (drop i xs))) ∙ sought-append k i v (part i n xs) (drop n (drop i xs))
        ∙ (λ j. onward k (i + whole_part xs i n h j) (drop-drop n i xs j) (sought_in k i v (part i n xs))) ∙ ap (onward k (i + n) (drop (i + n) xs)) (sym q)

    pub stretch-found : (next w : ℕ) → r ≡ At next w → At next w ≡ goal
    stretch-found next w d = sym (stretched ∙ ap (onward k (i + n) (drop (i + n) xs)) d)

    pub stretch-more : (w : ℕ) → r ≡ Nowhere w → goal ≡ sought_in k (i + n) w (drop (i + n) xs)
    stretch-more w d = stretched ∙ ap (onward k (i + n) (drop (i + n) xs)) d

-- ---- a quiet stretch

-- an octet that does not stand in the marker is right nowhere in it
stray : (x m : ℕ) → not (in_marker x) ≡ true → in_marker m ≡ true → 1 ≤ wrong_in x m
unfolding ones
stray x m e d =
    ones-more (bit_xor x m) (λ z. true≢false (sym d ∙ ap in_marker (sym (no-wrong x m (ap ones z))) ∙ not-true (in_marker x) e))

four-strays : (k a b c d : ℕ) → k ≤ 3 → b < 256 → c < 256 → d < 256 → not (in_marker a) ≡ true → not (in_marker b) ≡ true → not (in_marker c) ≡ true
    → not (in_marker d) ≡ true → near k (number (a ∷ b ∷ c ∷ d ∷ [])) ≡ false
unfolding wrong_bits number
four-strays k a b c d h hb hc hd p q r s =
    lt-leb (ones (bit_xor (number (a ∷ b ∷ c ∷ d ∷ [])) 0x1acffc1d)) k
    (omega (arith, wrong-octets a b c d [] hb hc hd, stray a 0x1a p refl, stray b 0xcf q refl, stray c 0xfc r refl, stray d 0x1d s refl))

quiet-first : (x : ℕ) (xs : List ℕ) → quiet (x ∷ xs) ≡ true → not (in_marker x) ≡ true
unfolding quiet
quiet-first x xs e = and_left (not (in_marker x)) (quiet xs) e

quiet-rest : (x : ℕ) (xs : List ℕ) → quiet (x ∷ xs) ≡ true → quiet xs ≡ true
unfolding quiet
quiet-rest x xs e = and_right (not (in_marker x)) (quiet xs) e

-- behind a window, quiet octets: none of the windows is a marker, and the last four octets are the last window
quiet-on : (k : ℕ) (ys : List ℕ) (i v a b c d : ℕ) → k ≤ 3 → v ≡ number (a ∷ b ∷ c ∷ d ∷ []) → Octets (a ∷ b ∷ c ∷ d ∷ ys) → quiet (b ∷ c ∷ d ∷ ys) ≡ true
    → sought_in k i v ys ≡ Nowhere (number (drop (length ys) (a ∷ b ∷ c ∷ d ∷ ys)))
unfolding sought_in
quiet-on k [] i v a b c d h e o q = ap Nowhere e
quiet-on k (y ∷ ys) i v a b c d h e o q =
    let w : moved v y ≡ number (b ∷ c ∷ d ∷ y ∷ []) = shift k v b c d y (o 1) (o 2) (o 3) (o 4) (shift-low k v a b c d (o 1) (o 2) (o 3) e) in
    let rest = quiet-rest b (c ∷ d ∷ y ∷ ys) q in
    let third = quiet-rest c (d ∷ y ∷ ys) rest in
    let fourth = quiet-rest d (y ∷ ys) third in
    let miss = ap (near k) w ∙ four-strays k b c d y h (o 2) (o 3) (o 4) (quiet-first b (c ∷ d ∷ y ∷ ys) q) (quiet-first c (d ∷ y ∷ ys) rest) (quiet-first d (y ∷ ys) third) (quiet-first y ys fourth) in
    sought-miss k i v y ys miss ∙ quiet-on k ys (suc i) (moved v y) b c d y h w (λ j. o (suc j)) rest

-- the window after some octets
abbrev window : ℕ → List ℕ → ℕ
window v [] = v
window v (x ∷ xs) = window (moved v x) xs

nowhere-is : (k i v w : ℕ) (xs : List ℕ) → sought_in k i v xs ≡ Nowhere w → w ≡ window v xs
unfolding sought_in
nowhere-is k i v w [] e = cc
nowhere-is k i v w (x ∷ xs) e = go (near k (moved v x)) refl (nowhere-is k (suc i) (moved v x) w xs)
  where
    go : (t : Bool) → near k (moved v x) ≡ t → (sought_in k (suc i) (moved v x) xs ≡ Nowhere w → w ≡ window (moved v x) xs) → w ≡ window (moved v x) xs
    go true n r =
        let d : At (suc i) (moved v x) ≡ Nowhere w = sym (sought-hit k i v x xs n) ∙ e in
        let z : ◌≡◌ {A = ℕ} 0 1 = cc in
        absurd (omega arith)
    go false n r = r (sym (sought-miss k i v x xs n) ∙ e)

-- three octets make the lower part of the window, whatever stood there before
three-moved : (v a b c : ℕ) → a < 256 → b < 256 → c < 256 → window v (a ∷ b ∷ c ∷ []) % 2 ^ 24 ≡ number (a ∷ b ∷ c ∷ [])
unfolding number
three-moved v a b c ha hb hc =
    let p : moved v a % 2 ^ 8 ≡ a = omega arith in
    let q : moved (moved v a) b % 2 ^ 16 ≡ moved v a % 2 ^ 8 * 256 + b = two (moved v a) in
    let r : moved (moved (moved v a) b) c % 2 ^ 24 ≡ moved (moved v a) b % 2 ^ 16 * 256 + c = three (moved (moved v a) b) in
    omega arith
  where
    two : (u : ℕ) → moved u b % 2 ^ 16 ≡ u % 2 ^ 8 * 256 + b
    two u = omega arith

    three : (u : ℕ) → moved u c % 2 ^ 24 ≡ u % 2 ^ 16 * 256 + c
    three u = omega arith

-- a quiet stretch: what its first three windows say, and behind them nothing
module _ (k i v : ℕ) (h : k ≤ 3) where
  leap-on : (a b c d : ℕ) (ys : List ℕ) → Octets (a ∷ b ∷ c ∷ d ∷ ys) → quiet (a ∷ b ∷ c ∷ d ∷ ys) ≡ true → (w : ℕ) → sought_in k i v (a ∷ b ∷ c ∷ []) ≡ Nowhere w
      → sought_in k i v (a ∷ b ∷ c ∷ d ∷ ys) ≡ Nowhere (number (drop (length ys) (a ∷ b ∷ c ∷ d ∷ ys)))
  leap-on a b c d ys o q w e =
      let low : w % 2 ^ 24 ≡ number (a ∷ b ∷ c ∷ []) = ap (λ (u : ℕ). u % 2 ^ 24) (nowhere-is k i v w (a ∷ b ∷ c ∷ []) e) ∙ three-moved v a b c (o 0) (o 1) (o 2) in
      let four : moved w d ≡ number (a ∷ b ∷ c ∷ d ∷ []) = shift k w a b c d (o 0) (o 1) (o 2) (o 3) low in
      let rest = quiet-rest a (b ∷ c ∷ d ∷ ys) q in
      let third = quiet-rest b (c ∷ d ∷ ys) rest in
      let fourth = quiet-rest c (d ∷ ys) third in
      let miss = ap (near k) four ∙ four-strays k a b c d h (o 1) (o 2) (o 3) (quiet-first a (b ∷ c ∷ d ∷ ys) q) (quiet-first b (c ∷ d ∷ ys) rest) (quiet-first c (d ∷ ys) third) (quiet-first d ys fourth) in
      sought-append k i v (a ∷ b ∷ c ∷ []) (d ∷ ys) ∙ ap (onward k (i + 3) (d ∷ ys)) e ∙ sought-miss k (i + 3) w d ys miss
      ∙ quiet-on k ys (suc (i + 3)) (moved w d) a b c d h four o rest

  pub leap-found : (xs : List ℕ) (next w : ℕ) → sought_in k i v (take 3 xs) ≡ At next w → At next w ≡ sought_in k i v xs
  leap-found xs next w e =
      sym (ap (sought_in k i v) (sym (take-append-drop 3 xs)) ∙ sought-append k i v (take 3 xs) (drop 3 xs) ∙ ap (onward k (i + length (take 3 xs)) (drop 3 xs)) e)

  pub leap-nowhere : (xs : List ℕ) → 4 ≤ length xs → Octets xs → quiet xs ≡ true → (w : ℕ) → sought_in k i v (take 3 xs) ≡ Nowhere w
      → Nowhere (number (drop (length xs - 4) xs)) ≡ sought_in k i v xs
  leap-nowhere [] l o q w e = absurd (omega arith)
  leap-nowhere (a ∷ []) l o q w e = absurd (omega arith)
  leap-nowhere (a ∷ b ∷ []) l o q w e = absurd (omega arith)
  leap-nowhere (a ∷ b ∷ c ∷ []) l o q w e = absurd (omega arith)
  leap-nowhere (a ∷ b ∷ c ∷ d ∷ ys) l o q w e =
      let n : suc (suc (suc (suc (length ys)))) - 4 ≡ length ys = omega arith in
      ap (λ (m : ℕ). Nowhere (number (drop m (a ∷ b ∷ c ∷ d ∷ ys)))) n ∙ sym (leap-on a b c d ys o q w e)

-- the same of 16 octets of a portion
module _ (xs : List ℕ) (k from v : ℕ) (h : k ≤ 3) (l : from + 16 ≤ length xs) where
  first_three : take 3 (part from 16 xs) ≡ part from (from + 3 - from) xs
  first_three =
      let n : from + 3 - from ≡ 3 = omega arith in
      take-take 3 16 (drop from xs) (omega arith) ∙ ap (λ (m : ℕ). part from m xs) (sym n)

  pub leaps-found : (r : Sought) (next w : ℕ) → r ≡ sought_in k from v (part from (from + 3 - from) xs) → r ≡ At next w → At next w ≡ sought_in k from v (part from 16 xs)
  leaps-found r next w q e = leap-found k from v h (part from 16 xs) next w (ap (sought_in k from v) first_three ∙ sym q ∙ e)

  pub leaps-nowhere : (r : Sought) (w n : ℕ) → Octets xs → quiet (part from (from + 16 - from) xs) ≡ true → r ≡ sought_in k from v (part from (from + 3 - from) xs) → r ≡ Nowhere w
      → n ≡ number_at xs (from + 16 - 4) 4 → Nowhere n ≡ sought_in k from v (part from 16 xs)
  unfolding number_at
  leaps-nowhere r w n o calm q e d =
      let size : length (part from 16 xs) ≡ 16 = whole_part xs from 16 l in
      let p : from + 16 - 4 ≡ from + 12 = omega arith in
      let m : from + 16 - from ≡ 16 = omega arith in
      let last : part (from + 16 - 4) 4 xs ≡ drop (length (part from 16 xs) - 4) (part from 16 xs) =
      ap (λ (m : ℕ). part m 4 xs) p ∙ sym (part-part xs from 16 12 4 (omega arith))
      ∙ take_all 4 (drop 12 (part from 16 xs)) (omega (arith, length-drop 12 (part from 16 xs), size))
      ∙ ap (λ (m : ℕ). drop (m - 4) (part from 16 xs)) (sym size) in
      ap Nowhere (d ∙ ap number last)
      ∙ leap-nowhere k from v h (part from 16 xs) (omega (arith, size)) (octets-part xs from 16 o) (sym (ap (λ (j : ℕ). quiet (part from j xs)) m) ∙ calm) w (ap (sought_in k from v) first_three ∙ sym q ∙ e)
