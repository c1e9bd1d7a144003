-- The laws of the blocks that a table of owners gives to one owner, and of their number. Assumes nothing.
use Rattle.std.specs.Prelude.{if◌then◌else◌}
use mathlib.Core.Path.{◌≡◌, refl, sym, ap, ◌∙◌}
use mathlib.Core.Logic.{◌⊎◌, inl, inr, ⊎_elim}
use mathlib.Core.List.{List, [], ◌∷◌, ◌++◌, map, append-nil}
use Prim.Native.Nat.{ℕ, zero, suc, ◌+◌, ◌-◌, ◌≤◌, ◌<◌}
use native.Mathlib.Nat.{add-zero, zero-add, add-suc, suc-add, le_of_suc-le-suc, not-suc-le-zero}
use native.Mathlib.Numerals.{add-one}
use native.Mathlib.Omega.{arith}
use borrow.Author.Tests.{eqb-true, eq-eqb, ne_eqb}
use lib.Dec.{eqb}
use lib.ListN.{length, get_or, take, drop, set, replicate, length-append, length-map}
use lib.Seq.{take-suc, drop-cons, split_at, length-take-le, get_or-append_seam}
use Rattle.octets.proofs.Below.{neither, below-cons, below_none}
use Rattle.octets.proofs.Lists.{if-cases, if-map}
use Rattle.state.specs.Blocks.{numbers_of}
use Rattle.state.specs.Decision.{block_counts}

-- one entry in front
pub numbers-in : (o i x : ℕ) (t : List ℕ) → x ≡ o → numbers_of o i (x ∷ t) ≡ i ∷ numbers_of o (suc i) t
unfolding numbers_of
numbers-in o i x t e = rw (eq-eqb x o e)

pub numbers-out : (o i x : ℕ) (t : List ℕ) → (x ≡ o → ⊥) → numbers_of o i (x ∷ t) ≡ numbers_of o (suc i) t
unfolding numbers_of
numbers-out o i x t f = rw (ne_eqb x o f)

-- the numbers, counted from elsewhere
pub numbers-shift : (o i n : ℕ) (t : List ℕ) → numbers_of o (n + i) t ≡ map (λ (b : ℕ). n + b) (numbers_of o i t)
unfolding numbers_of
numbers-shift o i n [] = refl
numbers-shift o i n (x ∷ t) =
    let rest : numbers_of o (suc (n + i)) t ≡ map (λ (b : ℕ). n + b) (numbers_of o (suc i) t) = rw add-suc at (numbers-shift o (suc i) n t) in
    rw rest (sym (if-map (map (λ (b : ℕ). n + b)) (eqb x o) (i ∷ numbers_of o (suc i) t) (numbers_of o (suc i) t)))

-- how many there are does not depend on where the count begins
pub length-numbers : (o i : ℕ) (t : List ℕ) → length (numbers_of o i t) ≡ length (numbers_of o 0 t)
length-numbers o i t =
    ap (λ (k : ℕ). length (numbers_of o k t)) (sym (add-zero i)) ∙ ap length (numbers-shift o 0 i t)
    ∙ length-map (numbers_of o 0 t) (λ (b : ℕ). i + b)

pub numbers-append : (o i : ℕ) (s t : List ℕ) → numbers_of o i (s ++ t) ≡ numbers_of o i s ++ numbers_of o (i + length s) t
unfolding numbers_of
numbers-append o i [] t = rw add-zero
numbers-append o i (x ∷ s) t =
    let rest : numbers_of o (suc i) (s ++ t) ≡ numbers_of o (suc i) s ++ numbers_of o (i + suc (length s)) t =
    numbers-append o (suc i) s t ∙ rw (suc-add, add-suc) in
    rw rest
    (sym
    (if-map (λ (l : List ℕ). l ++ numbers_of o (i + suc (length s)) t) (eqb x o) (i ∷ numbers_of o (suc i) s) (numbers_of o (suc i) s)))

-- a table one longer: a loop's turn, where what is passed is told, and where what is left is told
module _ (o i : ℕ) (t : List ℕ) (n : ℕ) (h : n < length t) where
  pub numbers_more :
      numbers_of o i (take (n + 1) t) ≡ (if eqb (get_or t n 0) o then numbers_of o i (take n t) ++ ((i + n) ∷ []) else numbers_of o i (take n t))
  unfolding numbers_of
  numbers_more =
      let l : length (take n t) ≡ n = length-take-le n t (omega arith) in
      rw (add-one, take-suc t n 0, numbers-append o i (take n t) (get_or t n 0 ∷ []), l)
      (if-map (λ (r : List ℕ). numbers_of o i (take n t) ++ r) (eqb (get_or t n 0) o) ((i + n) ∷ []) [] ∙ rw append-nil)

  pub numbers-next :
      numbers_of o i (drop n t) ≡ (if eqb (get_or t n 0) o then i ∷ numbers_of o (suc i) (drop (suc n) t) else numbers_of o (suc i) (drop (suc n) t))
  unfolding numbers_of
  numbers-next = rw (drop-cons t n 0)

-- what each of the numbers is
pub record Entry (o i : ℕ) (t : List ℕ) (b : ℕ) : Type 0 where
  pub from : i ≤ b
  pub to : b < i + length t
  pub here : get_or t (b - i) 0 ≡ o

entry_first : (o i x : ℕ) (t : List ℕ) → x ≡ o → Entry o i (x ∷ t) i
entry_first o i x t e =
    let k : i - i ≡ 0 = omega arith in
    record { from = omega arith; to = omega arith; here = rw k e }

entry-later : (o i x : ℕ) (t : List ℕ) (b : ℕ) → Entry o (suc i) t b → Entry o i (x ∷ t) b
entry-later o i x t b h =
    let k : b - i ≡ suc (b - suc i) = omega arith in
    record { from = omega arith; to = omega arith; here = rw k h.here }

pub numbers-entry : (o i : ℕ) (t : List ℕ) (r : ℕ) → r < length (numbers_of o i t) → Entry o i t (get_or (numbers_of o i t) r 0)
unfolding numbers_of
numbers-entry o i [] = below_none (λ (r : ℕ). Entry o i [] 0)
numbers-entry o i (x ∷ t) =
    let later : (r : ℕ) → r < length (numbers_of o (suc i) t) → Entry o i (x ∷ t) (get_or (numbers_of o (suc i) t) r 0) =
    λ r h. entry-later o i x t (get_or (numbers_of o (suc i) t) r 0) (numbers-entry o (suc i) t r h) in
    if-cases (λ (l : List ℕ). (r : ℕ) → r < length l → Entry o i (x ∷ t) (get_or l r 0)) (eqb x o)
    (λ e. below-cons (λ (r : ℕ). Entry o i (x ∷ t) (get_or (i ∷ numbers_of o (suc i) t) r 0)) (entry_first o i x t (eqb-true x o e)) later)
    (λ e. later)

-- each of a list is greater than those before it
abbrev pub Rising : List ℕ → Type 0
Rising l = (r q : ℕ) → r < q → q < length l → get_or l r 0 < get_or l q 0

rising-cons : (b : ℕ) (l : List ℕ) → ((q : ℕ) → q < length l → b < get_or l q 0) → Rising l → Rising (b ∷ l)
rising-cons b l f g r zero h k = absurd (not-suc-le-zero h)
rising-cons b l f g zero (suc q) h k = f q (le_of_suc-le-suc k)
rising-cons b l f g (suc r) (suc q) h k = g r q (le_of_suc-le-suc h) (le_of_suc-le-suc k)

pub numbers-rising : (o i : ℕ) (t : List ℕ) → Rising (numbers_of o i t)
unfolding numbers_of
numbers-rising o i [] = λ r q h k. absurd (not-suc-le-zero k)
numbers-rising o i (x ∷ t) =
    let rest : Rising (numbers_of o (suc i) t) = numbers-rising o (suc i) t in
    if-cases Rising (eqb x o) (λ e. rising-cons i (numbers_of o (suc i) t) (λ q h. (numbers-entry o (suc i) t q h).from) rest) (λ e. rest)

-- no number stands at two places
pub rising-once : (l : List ℕ) → Rising l → (r q : ℕ) → r < length l → q < length l → get_or l r 0 ≡ get_or l q 0 → r ≡ q
rising-once l f r q h k e = neither r q (λ p. omega (arith, f r q p k)) (λ p. omega (arith, f q r p h))

-- the place of block b among the blocks of owner o: how many there are before it
abbrev pub rank : ℕ → ℕ → List ℕ → ℕ
rank o b t = length (numbers_of o 0 (take b t))

-- the numbers, cut at one of them
pub numbers-split : (o i : ℕ) (t : List ℕ) (b : ℕ) → b < length t → get_or t b 0 ≡ o
    → numbers_of o i t ≡ numbers_of o i (take b t) ++ (i + b) ∷ numbers_of o (suc (i + b)) (drop (suc b) t)
numbers-split o i t b h e =
    let l : length (take b t) ≡ b = length-take-le b t (omega arith) in
    ap (numbers_of o i) (split_at t b 0 h) ∙ numbers-append o i (take b t) (get_or t b 0 ∷ drop (suc b) t)
    ∙ rw (l, numbers-in o (i + b) (get_or t b 0) (drop (suc b) t) e)

-- an entry that is o stands among the numbers, at its rank
module _ (o i : ℕ) (t : List ℕ) (b : ℕ) (h : b < length t) (e : get_or t b 0 ≡ o) where
  pub rank-low : rank o b t < length (numbers_of o i t)
  rank-low = rw (numbers-split o i t b h e, length-append) (omega (arith, length-numbers o i (take b t)))

  pub rank-here : get_or (numbers_of o i t) (rank o b t) 0 ≡ i + b
  rank-here =
      rw (numbers-split o i t b h e, ← length-numbers o i (take b t))
      (get_or-append_seam (numbers_of o i (take b t)) (i + b) (numbers_of o (suc (i + b)) (drop (suc b) t)) 0)

-- counted from 0, the r-th of the numbers is the place of an entry that is o, and has rank r
module _ (o : ℕ) (t : List ℕ) (r : ℕ) (h : r < length (numbers_of o 0 t)) where
  pub entry-low : get_or (numbers_of o 0 t) r 0 < length t
  entry-low = omega (arith, (numbers-entry o 0 t r h).to)

  pub entry_here : get_or t (get_or (numbers_of o 0 t) r 0) 0 ≡ o
  entry_here = ap (λ (k : ℕ). get_or t k 0) (omega arith) ∙ (numbers-entry o 0 t r h).here

  pub rank-of : rank o (get_or (numbers_of o 0 t) r 0) t ≡ r
  rank-of =
      let b = get_or (numbers_of o 0 t) r 0 in
      rising-once (numbers_of o 0 t) (numbers-rising o 0 t) (rank o b t) r (rank-low o 0 t b entry-low entry_here) h
      (rank-here o 0 t b entry-low entry_here ∙ zero-add b)

pub numbers-few : (o i : ℕ) (t : List ℕ) → length (numbers_of o i t) ≤ length t
unfolding numbers_of
numbers-few o i [] = omega arith
numbers-few o i (x ∷ t) =
    if-cases (λ (l : List ℕ). length l ≤ suc (length t)) (eqb x o) (λ e. omega (arith, numbers-few o (suc i) t))
    (λ e. omega (arith, numbers-few o (suc i) t))

-- a table that has x once more than another, wherever that is
abbrev pub More : ℕ → List ℕ → List ℕ → Type 0
More x t u = (o : ℕ) → length (numbers_of o 0 u) ≡ (if eqb x o then 1 else 0) + length (numbers_of o 0 t)

pub more-front : (x : ℕ) (t : List ℕ) → More x t (x ∷ t)
unfolding numbers_of
more-front x t o =
    if-map length (eqb x o) (0 ∷ numbers_of o 1 t) (numbers_of o 1 t)
    ∙ if-cases (λ (k : ℕ). k ≡ (if eqb x o then 1 else 0) + length (numbers_of o 0 t)) (eqb x o)
    (λ e. rw e (omega (arith, length-numbers o 1 t))) (λ e. rw e (omega (arith, length-numbers o 1 t)))

pub more-end : (t : List ℕ) (n : ℕ) → n < length t → More (get_or t n 0) (take n t) (take (n + 1) t)
more-end t n h o =
    ap length (numbers_more o 0 t n h) ∙ if-map length (eqb (get_or t n 0) o) (numbers_of o 0 (take n t) ++ ((0 + n) ∷ [])) (numbers_of o 0 (take n t))
    ∙ if-cases (λ (k : ℕ). k ≡ (if eqb (get_or t n 0) o then 1 else 0) + length (numbers_of o 0 (take n t))) (eqb (get_or t n 0) o)
    (λ e. rw (e, length-append) (omega arith)) (λ e. rw e (omega arith))

-- the numbers of blocks, slot by slot
pub length-counts : (t : List ℕ) (k n : ℕ) → length (block_counts t k n) ≡ n
unfolding block_counts
length-counts t k zero = refl
length-counts t k (suc n) = ap suc (length-counts t (suc k) n)

pub counts-at : (t : List ℕ) (k n i : ℕ) → i < n → get_or (block_counts t k n) i 0 ≡ length (numbers_of (suc (k + i)) 0 t)
unfolding block_counts
counts-at t k zero i h = absurd (not-suc-le-zero h)
counts-at t k (suc n) zero h = rw add-zero
counts-at t k (suc n) (suc i) h = rw add-suc (counts-at t (suc k) n i (le_of_suc-le-suc h) ∙ rw suc-add)

-- of no blocks, no slot has one
pub counts-none : (k n : ℕ) → block_counts [] k n ≡ replicate n 0
unfolding block_counts numbers_of
counts-none k zero = refl
counts-none k (suc n) = ap (λ (l : List ℕ). 0 ∷ l) (counts-none (suc k) n)

-- a block more: nothing changes if it is no slot's, and its slot has one more if it is
module _ (x : ℕ) (t u : List ℕ) (more : More x t u) where
  more_same : (o : ℕ) → x ≡ o → length (numbers_of o 0 u) ≡ length (numbers_of o 0 t) + 1
  more_same o e = more o ∙ rw (eq-eqb x o e) (omega arith)

  more-other : (o : ℕ) → (x ≡ o → ⊥) → length (numbers_of o 0 u) ≡ length (numbers_of o 0 t)
  more-other o f = more o ∙ rw (ne_eqb x o f, zero-add)

  pub counts-out : (k n : ℕ) → (x ≤ k) ⊎ (k + n < x) → block_counts u k n ≡ block_counts t k n
  unfolding block_counts
  counts-out k zero h = refl
  counts-out k (suc n) h =
      rw (
        more-other (suc k) (⊎_elim (λ l e. omega arith) (λ l e. omega arith) h),
        counts-out (suc k) n (⊎_elim (λ l. inl (omega arith)) (λ l. inr (omega arith)) h),
      )

  pub counts-in : (k n i : ℕ) → i < n → x ≡ suc (k + i) → block_counts u k n ≡ set (block_counts t k n) i (get_or (block_counts t k n) i 0 + 1)
  unfolding block_counts
  counts-in k zero i h e = absurd (not-suc-le-zero h)
  counts-in k (suc n) zero h e = rw (more_same (suc k) (omega arith), counts-out (suc k) n (inl (omega arith)))
  counts-in k (suc n) (suc i) h e =
      rw (more-other (suc k) (λ q. omega arith), counts-in (suc k) n i (le_of_suc-le-suc h) (omega arith))

-- all together
unfoldable pub total : List ℕ → ℕ
total [] = 0
total (n ∷ ns) = n + total ns

total-zeros : (n : ℕ) → total (replicate n 0) ≡ 0
unfolding total
total-zeros zero = refl
total-zeros (suc n) = rw zero-add (total-zeros n)

total-more : (ns : List ℕ) (i : ℕ) → i < length ns → total (set ns i (get_or ns i 0 + 1)) ≡ suc (total ns)
unfolding total
total-more [] i h = absurd (not-suc-le-zero h)
total-more (n ∷ ns) zero h = omega arith
total-more (n ∷ ns) (suc i) h = rw (total-more ns i (le_of_suc-le-suc h), add-suc)

counted : (n x : ℕ) (t : List ℕ) → x ≤ n
    → length (numbers_of 0 0 (x ∷ t)) + total (block_counts (x ∷ t) 0 n) ≡ suc (length (numbers_of 0 0 t) + total (block_counts t 0 n))
counted n zero t h =
    let more = more-front 0 t in
    rw (more_same 0 t (0 ∷ t) more 0 refl, counts-out 0 t (0 ∷ t) more 0 n (inl (omega arith))) (omega arith)
counted n (suc x) t h =
    let more = more-front (suc x) t in
    let low : x < length (block_counts t 0 n) = omega (arith, length-counts t 0 n) in
    rw (
      more-other (suc x) t (suc x ∷ t) more 0 (λ e. omega arith),
      counts-in (suc x) t (suc x ∷ t) more 0 n x h (omega arith),
      total-more (block_counts t 0 n) x low,
    )
    (omega arith)

-- the counting law: each block is free, or counts for one of n slots
pub counting : (n : ℕ) (t : List ℕ) → ((i : ℕ) → i < length t → get_or t i 0 ≤ n)
    → length t ≡ length (numbers_of 0 0 t) + total (block_counts t 0 n)
unfolding numbers_of
counting n [] h = rw (counts-none 0 n, total-zeros n)
counting n (x ∷ t) h = ap suc (counting n t (λ i l. h (suc i) (omega arith))) ∙ sym (counted n x t (h 0 (omega arith)))
