-- What the sections of every catalogue tell: channels and indexes rise, and the channels are those with files, each with its count. Assumes nothing.
use mathlib.Core.Path.{◌≡◌, refl, sym, ap, ◌∙◌, subst}
use mathlib.Core.Bool.{Bool, true, false, ◌&&◌}
use mathlib.Core.List.Memᴰ
use mathlib.Core.List.{List, [], ◌∷◌, Memᴰ}
use mathlib.Core.Logic.{⊎_elim}
use Prim.Native.Nat.{ℕ, zero, suc, ◌+◌, ◌<◌, ◌≤◌}
use native.Mathlib.Decide.{ℕ_discrete}
use native.Mathlib.Omega.{arith}
use borrow.Author.Tests.{leb-true, ltb-true, ltb-false, le-leb, lt-ltb, eqb-true, eqb-false, ne_eqb}
use lib.Dec.{leb, ltb, eqb}
use lib.ListN.{length, get_or, length-map}
use Rattle.octets.specs.Number.{Octets}
use Rattle.octets.specs.Each.{each}
use Rattle.octets.proofs.Lists.{if-cases}
use Rattle.octets.proofs.Tests.{and_left, and_right, and_both}
use Rattle.sections.specs.Sections.{Row}
use Rattle.catalogue.specs.Catalogue.{how_many, channel_rows, channel_of, counted_channels, good_file, rising, files_of, images_of, channels_of, accepts}
use Rattle.catalogue.specs.Promises.{Rise, firsts, Tells}
use Rattle.catalogue.proofs.Lists.{rising-later}
use Rattle.catalogue.proofs.Exact.{all-good, few-files, good-files, table-counts, table-rising}
use Rattle.catalogue.proofs.Counting.{low-channel}

-- the channels rise and are below c + k, whatever is counted
pub channels-rise : (f : ℕ → ℕ) (k c n : ℕ) → c + k ≤ n → rising c n (channel_rows f k c) ≡ true
unfolding rising channel_rows
channels-rise f zero c n h = refl
channels-rise f (suc k) c n h =
    if-cases (λ (rs : List Row). rising c n rs ≡ true) (eqb (f c) 0) (λ q. rising-later c n (channel_rows f k (suc c)) (channels-rise f k (suc c) n (omega arith)))
    (λ q. and_both (and_both (le-leb c c (omega arith)) (lt-ltb c n (omega arith))) (channels-rise f k (suc c) n (omega arith)))

-- what the test of rising says of each number
pub record Between (i n : ℕ) (xs : List ℕ) : Type 0 where
  pub least : (j : ℕ) → j < length xs → i ≤ get_or xs j 0
  pub most : (j : ℕ) → j < length xs → get_or xs j 0 < n
  pub rise : Rise xs

pub rising-between : (i n : ℕ) (rs : List Row) → rising i n rs ≡ true → Between i n (firsts rs)
unfolding rising
rising-between i n [] e = record { least = λ j h. absurd (omega arith); most = λ j h. absurd (omega arith); rise = λ j k l h. absurd (omega arith) }
rising-between i n (r ∷ rs) e =
    let x = get_or r 0 0 in
    let a = leb i x in
    let b = ltb x n in
    let front = and_left (a && b) (rising (suc x) n rs) e in
    let low = leb-true i x (and_left a b front) in
    let high = ltb-true x n (and_right a b front) in
    let rest = rising-between (suc x) n rs (and_right (a && b) (rising (suc x) n rs) e) in
    record { least = least-of low rest; most = most-of high rest; rise = rise-of rest }
  where
    least-of : i ≤ get_or r 0 0 → Between (suc (get_or r 0 0)) n (firsts rs) → (j : ℕ) → j < suc (length (firsts rs)) → i ≤ get_or (get_or r 0 0 ∷ firsts rs) j 0
    least-of low rest zero h = low
    least-of low rest (suc j) h = omega (arith, rest.least j (omega arith))

    most-of : get_or r 0 0 < n → Between (suc (get_or r 0 0)) n (firsts rs) → (j : ℕ) → j < suc (length (firsts rs)) → get_or (get_or r 0 0 ∷ firsts rs) j 0 < n
    most-of high rest zero h = high
    most-of high rest (suc j) h = rest.most j (omega arith)

    rise-of : Between (suc (get_or r 0 0)) n (firsts rs) → Rise (get_or r 0 0 ∷ firsts rs)
    rise-of rest j zero l h = absurd (omega arith)
    rise-of rest zero (suc k) l h = omega (arith, rest.least k (omega arith))
    rise-of rest (suc j) (suc k) l h = rest.rise j k (omega arith) (omega arith)

-- a channel with a number of files stands in the section exactly if it is one of those counted, and has so many
module _ (f : ℕ → ℕ) where
  pub spoken : (k c d n : ℕ) → Memᴰ (d ∷ n ∷ []) (channel_rows f k c) → (n ≡ f d) × (1 ≤ n)
  unfolding channel_rows
  spoken zero c d n m = absurd (Memᴰ.not-nil m)
  spoken (suc k) c d n m =
      if-cases (λ (rs : List Row). Memᴰ (d ∷ n ∷ []) rs → (n ≡ f d) × (1 ≤ n)) (eqb (f c) 0) (λ q u. spoken k (suc c) d n u)
      (λ q u. ⊎_elim (λ e. here q e) (λ v. spoken k (suc c) d n v) (Memᴰ.cases_cons u)) m
    where
      here : eqb (f c) 0 ≡ false → d ∷ n ∷ [] ≡ c ∷ f c ∷ [] → (n ≡ f d) × (1 ≤ n)
      here q e =
          let x : d ≡ c = ap (λ (r : Row). get_or r 0 0) e in
          let y : n ≡ f c = ap (λ (r : Row). get_or r 1 0) e in
          (y ∙ ap f (sym x), omega (arith, eqb-false (f c) 0 q))

  pub stands : (k c d : ℕ) → c ≤ d → d < c + k → 1 ≤ f d → Memᴰ (d ∷ f d ∷ []) (channel_rows f k c)
  unfolding channel_rows
  stands zero c d l h s = absurd (omega arith)
  stands (suc k) c d l h s =
      elim (ℕ_discrete c d) [
        | yes e ↦ if-cases (Memᴰ (d ∷ f d ∷ [])) (eqb (f c) 0) (λ q. absurd (omega (arith, eqb-true (f c) 0 q, ap f e)))
            (λ q. Memᴰ.head (ap (λ (i : ℕ). i ∷ f i ∷ []) (sym e)))
        | no n ↦ if-cases (Memᴰ (d ∷ f d ∷ [])) (eqb (f c) 0) (λ q. stands k (suc c) d (omega arith) (omega arith) s)
            (λ q. Memᴰ.tail (stands k (suc c) d (omega arith) (omega arith) s))
      ]

-- no good file has a channel over 62
high-none : (fs : List Row) (d : ℕ) → each good_file fs ≡ true → 63 ≤ d → how_many d (firsts fs) ≡ 0
unfolding each how_many
high-none [] d g h = refl
high-none (f ∷ fs) d g h =
    let low = low-channel f (and_left (good_file f) (each good_file fs) g) in
    let rest = high-none fs d (and_right (good_file f) (each good_file fs) g) h in
    rw (ne_eqb d (get_or f 0 0) (λ q. omega arith)) (omega arith)

pub told : (xs : List ℕ) → Octets xs → accepts xs ≡ true → Tells xs
told xs o a =
    let F = files_of xs in
    let I = images_of xs in
    let C = channels_of xs in
    let g = all-good xs o a in
    let C-is = table-counts F I C g in
    let rises = rising-between 0 (length F) I (table-rising F I C g) in
    record {
      few = few-files xs o a;
      counts = C-is;
      exactly = λ c n. (
        (λ m. spoken (λ (d : ℕ). how_many d (firsts (files_of xs))) 63 0 c n (subst (Memᴰ (c ∷ n ∷ [])) C-is m)),
        (λ s. there c n s.0 s.1 C-is),
      );
      channels = subst (λ (rs : List Row). Rise (firsts rs)) (sym C-is)
          (rising-between 0 63 (counted_channels F) (channels-rise (λ (c : ℕ). how_many c (firsts (files_of xs))) 63 0 63 (omega arith))).rise;
      indexes = rises.rise;
      below = λ i h. rises.most i (omega (arith, length-map I channel_of));
    }
  where
    there : (c n : ℕ) → n ≡ how_many c (firsts (files_of xs)) → 1 ≤ n → channels_of xs ≡ counted_channels (files_of xs) → Memᴰ (c ∷ n ∷ []) (channels_of xs)
    there c n e s q = go (ltb c 63) refl
      where
        go : (b : Bool) → ltb c 63 ≡ b → Memᴰ (c ∷ n ∷ []) (channels_of xs)
        go true l =
            subst (Memᴰ (c ∷ n ∷ [])) (sym q)
            (subst (λ (k : ℕ). Memᴰ (c ∷ k ∷ []) (counted_channels (files_of xs))) (sym e)
            (stands (λ (d : ℕ). how_many d (firsts (files_of xs))) 63 0 c (omega arith) (ltb-true c 63 l) (omega arith)))
        go false l = absurd (omega (arith, high-none (files_of xs) c (good-files xs o a) (ltb-false c 63 l)))
