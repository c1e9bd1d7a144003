-- The laws of a run of stores. No bound is asked where none is needed. Assumes nothing.
use mathlib.Core.Path.{◌≡◌, refl, sym, ap, ap₂, ◌∙◌}
use mathlib.Core.List.{List, [], ◌∷◌, ◌++◌, append-nil}
use mathlib.Core.Logic.{◌⊎◌, ⊎_elim}
use Prim.Native.Nat.{ℕ, suc, ◌+◌, ◌-◌, ◌<◌, ◌≤◌}
use native.Mathlib.Nat.{add-zero, add-suc, suc-add}
use native.Mathlib.Decide.{ℕ_discrete}
use native.Mathlib.Numerals.{add-one, towards_suc}
use native.Mathlib.Omega.{arith}
use borrow.Rule.Slice.PartMut.{put_mid, mid_of, put_same}
use lib.ListN.{length, take, drop, set, get_or, replicate, length-replicate, drop_of_length-le}
use lib.Seq.{sets, sets-eq, length-sets, drop-cons, take-set-le, take-set-lt, drop-set-lt, drop-set-add, set-set, set_comm}
use Rattle.octets.specs.Number.{part}
use Rattle.octets.specs.Buffer.{put}
use Rattle.octets.proofs.Lists.{whole_part, three-parts}

pub put-nil : (xs : List ℕ) (at : ℕ) → put xs at [] ≡ xs
unfolding put
put-nil xs at = refl

-- one run of stores after the other
pub put-put : (es xs : List ℕ) (at : ℕ) (fs : List ℕ) → put (put xs at es) (at + length es) fs ≡ put xs at (es ++ fs)
unfolding put
put-put [] xs at fs = ap (λ (k : ℕ). sets xs k fs) (add-zero at)
put-put (e ∷ es) xs at fs =
    ap (λ (k : ℕ). sets (sets (set xs at e) (suc at) es) k fs) (add-suc at (length es) ∙ sym (suc-add at (length es)))
    ∙ put-put es (set xs at e) (suc at) fs

pub length-put : (xs : List ℕ) (at : ℕ) (es : List ℕ) → length (put xs at es) ≡ length xs
unfolding put
length-put xs at es = length-sets xs at es

pub put-parts : (xs : List ℕ) (at : ℕ) (es : List ℕ) → at + length es ≤ length xs
    → put xs at es ≡ take at xs ++ es ++ drop (at + length es) xs
unfolding put
put-parts xs at es h = sets-eq es xs at h

-- a loop that stores a list octet by octet: where it begins, a turn, and where it ends
module _ (src : List ℕ) (at : ℕ) (goal : List ℕ) where
  pub copy-none : (dst : List ℕ) → goal ≡ put dst at src → goal ≡ put dst (at + 0) src
  copy-none dst e = rw add-zero e

  pub copy_more : (dst : List ℕ) (i : ℕ) → i < length src → goal ≡ put dst (at + i) (drop i src)
      → goal ≡ put (set dst (at + i) (get_or src i 0)) (at + (i + 1)) (drop (i + 1) src)
  unfolding put
  copy_more dst i h e = rw (add-one, add-suc) (e ∙ ap (sets dst (at + i)) (drop-cons src i 0 h))

  pub copy-all : (dst : List ℕ) (i : ℕ) → length src ≤ i → goal ≡ put dst (at + i) (drop i src) → dst ≡ goal
  unfolding put
  copy-all dst i h e = sym (e ∙ ap (sets dst (at + i)) (drop_of_length-le src h))

-- a whole buffer
pub put_whole : (xs es : List ℕ) → length es ≡ length xs → put xs 0 es ≡ es
put_whole xs es h =
    let fits : 0 + length es ≤ length xs = omega arith in
    let none : length xs ≤ 0 + length es = omega arith in
    put-parts xs 0 es fits ∙ ap (λ (r : List ℕ). es ++ r) (drop_of_length-le xs none) ∙ append-nil es

-- a stretch that begins behind n places, or ends before them
pub take-put-before : (es xs : List ℕ) (at n : ℕ) → n ≤ at → take n (put xs at es) ≡ take n xs
unfolding put
take-put-before [] xs at n h = refl
take-put-before (e ∷ es) xs at n h = take-put-before es (set xs at e) (suc at) n (omega arith) ∙ take-set-le n xs at e h

pub drop-put-after : (es xs : List ℕ) (at n : ℕ) → at + length es ≤ n → drop n (put xs at es) ≡ drop n xs
unfolding put
drop-put-after [] xs at n h = refl
drop-put-after (e ∷ es) xs at n h = drop-put-after es (set xs at e) (suc at) n (omega arith) ∙ drop-set-lt n xs at e (omega arith)

-- a stretch that lies in what is taken or dropped
pub take_put : (es xs : List ℕ) (at n : ℕ) → at + length es ≤ n → take n (put xs at es) ≡ put (take n xs) at es
unfolding put
take_put [] xs at n h = refl
take_put (e ∷ es) xs at n h =
    take_put es (set xs at e) (suc at) n (omega arith) ∙ ap (λ (ys : List ℕ). sets ys (suc at) es) (take-set-lt n xs at e (omega arith))

pub drop-put : (es xs : List ℕ) (n at : ℕ) → drop n (put xs (n + at) es) ≡ put (drop n xs) at es
unfolding put
drop-put [] xs n at = refl
drop-put (e ∷ es) xs n at =
    ap (λ (j : ℕ). drop n (sets (set xs (n + at) e) j es)) (sym (add-suc n at)) ∙ drop-put es (set xs (n + at) e) n (suc at)
    ∙ ap (λ (ys : List ℕ). sets ys (suc at) es) (drop-set-add n xs at e)

-- a part that has the stretch in it, that is the stretch, or that does not meet it
pub part-put : (es xs : List ℕ) (a n at : ℕ) → at + length es ≤ n → part a n (put xs (a + at) es) ≡ put (part a n xs) at es
part-put es xs a n at h = ap (take n) (drop-put es xs a at) ∙ take_put es (drop a xs) at n h

pub part-put-in : (es xs : List ℕ) (at : ℕ) → at + length es ≤ length xs → part at (length es) (put xs at es) ≡ es
part-put-in es xs at h =
    ap (λ (j : ℕ). part at (length es) (put xs j es)) (sym (add-zero at)) ∙ part-put es xs at (length es) 0 (omega arith)
    ∙ put_whole (part at (length es) xs) es (sym (whole_part xs at (length es) h))

pub part-put-out : (es xs : List ℕ) (at a n : ℕ) → (a + n ≤ at) ⊎ (at + length es ≤ a) → part a n (put xs at es) ≡ part a n xs
part-put-out es xs at a n h =
    ⊎_elim before (λ k. ap (take n) (drop-put-after es xs at a k)) h
  where
    before : a + n ≤ at → part a n (put xs at es) ≡ part a n xs
    before k =
        let s : at ≡ a + (at - a) = omega arith in
        ap (λ (j : ℕ). part a n (put xs j es)) s ∙ ap (take n) (drop-put es xs a (at - a))
        ∙ take-put-before es (drop a xs) (at - a) n (omega arith)

-- a run of stores in a part that was lent is a run of stores in the whole
pub put-part : (es : List ℕ) (a k at : ℕ) (xs : List ℕ) → at + length es ≤ k
    → put_mid a k xs (put (mid_of a k xs) at es) ≡ put xs (a + at) es
put-part es a k at xs h =
    ap (put_mid a k xs) (sym (part-put es xs a k at h))
    ∙ ap₂ (λ (f b : List ℕ). f ++ (part a k (put xs (a + at) es) ++ b)) (sym (take-put-before es xs (a + at) a (omega arith)))
    (sym (ap (drop k) (drop-put es xs a at) ∙ drop-put-after es (drop a xs) at k h))
    ∙ put_same a k (put xs (a + at) es)

-- a part that was lent and stored all over, or filled with one value, is a run of stores in the whole
pub put_lent : {new : List ℕ} (es xs : List ℕ) (a k : ℕ) → new ≡ es → length es ≡ k → a + k ≤ length xs → put_mid a k xs new ≡ put xs a es
put_lent es xs a k e n h =
    ap (put_mid a k xs) (e ∙ sym (put_whole (part a k xs) es (n ∙ sym (whole_part xs a k h)))) ∙ put-part es a k 0 xs (omega arith)
    ∙ ap (λ (j : ℕ). put xs j es) (add-zero a)

pub fill_lent : {new : List ℕ} (v n : ℕ) (xs : List ℕ) (a k : ℕ) → new ≡ replicate (length (take k (drop a xs))) v → k ≡ n → a + k ≤ length xs
    → put_mid a k xs new ≡ put xs a (replicate n v)
fill_lent v n xs a k e m h = put_lent (replicate n v) xs a k (e ∙ ap (λ (j : ℕ). replicate j v) (whole_part xs a k h ∙ m)) (length-replicate n v ∙ sym m) h

-- a store before a run of stores behind it
set_before : (es xs : List ℕ) (a b v : ℕ) → a < b → set (put xs b es) a v ≡ put (set xs a v) b es
unfolding put
set_before [] xs a b v l = refl
set_before (e ∷ es) xs a b v l =
    set_before es (set xs b e) a (suc b) v (omega arith) ∙ ap (λ (ys : List ℕ). sets ys (suc b) es) (set_comm xs b a e v (λ q. omega arith))

-- a run of stores right in front of another that was made before
pub put-before : (P Q xs : List ℕ) (at q : ℕ) → q ≡ at + length P → put (put xs q Q) at P ≡ put xs at (P ++ Q)
unfolding put
put-before [] Q xs at q e = ap (λ (k : ℕ). put xs k Q) (e ∙ add-zero at)
put-before (p ∷ P) Q xs at q e =
    ap (λ (ys : List ℕ). put ys (suc at) P) (set_before Q xs at q p (omega arith)) ∙ put-before P Q (set xs at p) (suc at) q (omega arith)

-- a run of stores over the front of another
pub put_front : (fs es xs : List ℕ) (a : ℕ) → length fs ≤ length es → put (put xs a es) a fs ≡ put xs a (fs ++ drop (length fs) es)
unfolding put
put_front [] es xs a l = refl
put_front (f ∷ fs) [] xs a l = absurd (omega arith)
put_front (f ∷ fs) (e ∷ es) xs a l =
    ap (λ (ys : List ℕ). sets ys (suc a) fs)
    (set_before es (set xs a e) a (suc a) f (omega arith) ∙ ap (λ (ys : List ℕ). sets ys (suc a) es) (set-set xs a e f))
    ∙ put_front fs es (set xs a f) (suc a) (omega arith)

-- a run of stores all over another
set-under : (fs xs : List ℕ) (a b v : ℕ) → a ≤ b → b < a + length fs → put (set xs b v) a fs ≡ put xs a fs
unfolding put
set-under [] xs a b v l m = absurd (omega arith)
set-under (f ∷ fs) xs a b v l m =
    elim (ℕ_discrete b a) [
      | yes e ↦ ap (λ (ys : List ℕ). sets ys (suc a) fs) (rw e (set-set xs a v f))
      | no n ↦ ap (λ (ys : List ℕ). sets ys (suc a) fs) (set_comm xs b a v f n) ∙ set-under fs (set xs a f) (suc a) b v (omega arith) (omega arith)
    ]

pub put_under : (es fs xs : List ℕ) (a b : ℕ) → a ≤ b → b + length es ≤ a + length fs → put (put xs b es) a fs ≡ put xs a fs
unfolding put
put_under [] fs xs a b l m = refl
put_under (e ∷ es) fs xs a b l m =
    put_under es fs (set xs b e) a (suc b) (omega arith) (omega arith) ∙ set-under fs xs a b e l (omega arith)

-- what stands there already
pub put-again : (xs : List ℕ) (a n : ℕ) → a + n ≤ length xs → put xs a (part a n xs) ≡ xs
put-again xs a n l =
    let k = whole_part xs a n l in
    put-parts xs a (part a n xs) (omega arith) ∙ ap (λ (m : ℕ). take a xs ++ part a n xs ++ drop (a + m) xs) k ∙ three-parts xs a n

-- three stores as one run
pub put_three : (xs : List ℕ) (n a b c : ℕ) → set (set (set xs n a) (n + 1) b) (n + 2) c ≡ put xs n (a ∷ b ∷ c ∷ [])
unfolding put
put_three xs n a b c = simp towards_suc
