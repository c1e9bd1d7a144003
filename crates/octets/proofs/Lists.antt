-- Laws of lists and of choices that the library does not have. Assumes nothing.
use Rattle.std.specs.Prelude.{if◌then◌else◌}
use mathlib.Core.Path.{◌≡◌, refl, sym, ap, ap₂, ◌∙◌}
use mathlib.Core.Bool.{Bool, true, false}
use mathlib.Core.Logic.{◌⊎◌, inl, inr, ⊎_elim}
use mathlib.Core.List.Memᴰ
use mathlib.Core.List.{List, [], ◌∷◌, ◌++◌, map, append_assoc, flatten, Memᴰ}
use Prim.Native.Nat.{ℕ, zero, suc, ◌+◌, ◌-◌, ◌<◌, ◌≤◌}
use native.Mathlib.Omega.{arith}
use lib.ListN.{length, take, drop, get_or, replicate, length-map, length-append, length-drop, take-append-drop}
use lib.Seq.{length-take-le, take_all, get_or-take, get_or-drop, take-take, take-add, drop-drop, take-append-le, drop-append-le, drop-append-add}
use Rattle.octets.specs.Number.{part}
pub use Rattle.std.proofs.lemmas.List.{take-map, drop-take, drop-replicate}

-- one of some, and of others
pub in_either : {A : Type 0} {x : A} (xs ys : List A) → Memᴰ x (xs ++ ys) → Memᴰ x xs ⊎ Memᴰ x ys
in_either [] ys m = inr m
in_either (y ∷ xs) ys m =
    ⊎_elim (λ q. inl (Memᴰ.head q)) (λ n. ⊎_elim (λ q. inl (Memᴰ.tail q)) inr (in_either xs ys n)) (Memᴰ.cases_cons m)

-- a list's last element, and what stands before it
pub snoc-once : {A : Type 0} (xs ys : List A) (x y : A) → xs ++ (x ∷ []) ≡ ys ++ (y ∷ []) → (xs ≡ ys) × (x ≡ y)
snoc-once [] [] x y e = (refl, cc)
snoc-once [] (b ∷ ys) x y e = absurd (omega (arith, ap length e, length-append ys (y ∷ [])))
snoc-once (a ∷ xs) [] x y e = absurd (omega (arith, ap length e, length-append xs (x ∷ [])))
snoc-once (a ∷ xs) (b ∷ ys) x y e =
    let tails : xs ++ (x ∷ []) ≡ ys ++ (y ∷ []) = cc in
    let heads : a ≡ b = cc in
    let r = snoc-once xs ys x y tails in
    (ap₂ ◌∷◌ heads r.0, r.1)

-- lists one behind the other
pub flatten-append : {A : Type 0} (xs ys : List (List A)) → flatten (xs ++ ys) ≡ flatten xs ++ flatten ys
unfolding flatten
flatten-append [] ys = refl
flatten-append {A} (x ∷ xs) ys = ap (λ (r : List A). x ++ r) (flatten-append xs ys) ∙ sym (append_assoc x (flatten xs) (flatten ys))

-- the length of an array of structs, from that of the array of what stands for them
pub unmap : (A B : Type 0) (f : A → B) (xs : List A) (n : ℕ) → length (map f xs) ≡ n → length xs ≡ n
unmap A B f xs n e = sym (length-map xs f) ∙ e

module _ {A : Type 0} where
  -- what `&xs[at..]` is
  pub whole-rest : (xs : List A) (at : ℕ) → take (length xs - at) (drop at xs) ≡ drop at xs
  whole-rest xs at = take_all (length xs - at) (drop at xs) (omega (arith, length-drop at xs))

  pub whole_part : (xs : List A) (at n : ℕ) → at + n ≤ length xs → length (part at n xs) ≡ n
  whole_part xs at n h = length-take-le n (drop at xs) (omega (arith, length-drop at xs))

  pub part_at : (xs : List A) (at n i : ℕ) (d : A) → i < n → get_or (part at n xs) i d ≡ get_or xs (at + i) d
  part_at xs at n i d h = get_or-take n (drop at xs) i d h ∙ get_or-drop at xs i d

  -- a list, cut in three
  pub three-parts : (xs : List A) (at n : ℕ) → take at xs ++ part at n xs ++ drop (at + n) xs ≡ xs
  three-parts xs at n =
      ap (λ (ys : List A). ys ++ drop (at + n) xs) (sym (take-add at n xs)) ∙ take-append-drop (at + n) xs

  -- a part of a part
  pub part-part : (xs : List A) (a n b m : ℕ) → b + m ≤ n → part b m (part a n xs) ≡ part (a + b) m xs
  part-part xs a n b m h =
      let cut : n ≡ b + (n - b) = omega arith in
      ap (λ (k : ℕ). part b m (part a k xs)) cut ∙ ap (take m) (drop-take b (n - b) (drop a xs)) ∙ take-take m (n - b) (drop b (drop a xs)) (omega arith)
      ∙ ap (take m) (drop-drop b a xs)

  -- two parts after each other
  pub part-add : (xs : List A) (at m n : ℕ) → part at (m + n) xs ≡ part at m xs ++ part (at + m) n xs
  part-add xs at m n = take-add m n (drop at xs) ∙ ap (λ (ys : List A). part at m xs ++ take n ys) (drop-drop m at xs)

-- a part of two lists joined: of the first alone, of the second alone, and from where they meet
module _ {A : Type 0} (xs ys : List A) where
  pub part_left : (at n : ℕ) → at + n ≤ length xs → part at n (xs ++ ys) ≡ part at n xs
  part_left at n h =
      ap (take n) (drop-append-le at xs ys (omega arith)) ∙ take-append-le n (drop at xs) ys (omega (arith, length-drop at xs))

  pub part_right : (at n : ℕ) → length xs ≤ at → part at n (xs ++ ys) ≡ part (at - length xs) n ys
  part_right at n h =
      let k : at ≡ length xs + (at - length xs) = omega arith in
      ap (λ (i : ℕ). part i n (xs ++ ys)) k ∙ ap (take n) (drop-append-add xs ys (at - length xs))

  pub part-seam : (at n : ℕ) → (0 < n → at ≡ length xs) → part at n (xs ++ ys) ≡ part 0 n ys
  part-seam at zero f = refl
  part-seam at (suc n) f =
      let e = f (omega arith) in
      let z : at - length xs ≡ 0 = omega arith in
      part_right at (suc n) (omega arith) ∙ ap (λ (i : ℕ). part i (suc n) ys) z

-- a list with nothing in it but one value
module _ {A : Type 0} (x : A) where
  abbrev pub Only : List A → Type 0
  Only xs = (i : ℕ) → get_or xs i x ≡ x

  pub only-replicate : (n : ℕ) → Only (replicate n x)
  only-replicate zero i = refl
  only-replicate (suc n) zero = refl
  only-replicate (suc n) (suc i) = only-replicate n i

  pub only-drop : (n : ℕ) (xs : List A) → Only xs → Only (drop n xs)
  only-drop n xs f i = get_or-drop n xs i x ∙ f (n + i)

  pub only-take : (n : ℕ) (xs : List A) → Only xs → Only (take n xs)
  only-take zero xs f i = refl
  only-take (suc n) [] f i = refl
  only-take (suc n) (y ∷ xs) f zero = f 0
  only-take (suc n) (y ∷ xs) f (suc i) = only-take n xs (λ j. f (suc j)) i

-- choices, by the test's answer
module _ {A : Type 0} (x y : A) {b : Bool} where
  pub if-true : b ≡ true → (if b then x else y) ≡ x
  if-true e = rw e

  pub if-false : b ≡ false → (if b then x else y) ≡ y
  if-false e = rw e

-- what holds of both outcomes, each under its answer, holds of the choice
pub if-cases : {A : Type 0} (P : A → Type 0) {x y : A} (b : Bool) → (b ≡ true → P x) → (b ≡ false → P y) → P (if b then x else y)
if-cases P true f g = f refl
if-cases P false f g = g refl

-- a function of a choice is a choice
pub if-map : {A B : Type 0} (f : A → B) (b : Bool) (x y : A) → f (if b then x else y) ≡ (if b then f x else f y)
if-map f true x y = refl
if-map f false x y = refl
