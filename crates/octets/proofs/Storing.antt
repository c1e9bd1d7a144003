-- The laws of numbers in octets that are written, and of a run of stores that is made from its end. Assumes nothing.
use mathlib.Core.Path.{◌≡◌, refl, sym, ap, ◌∙◌}
use mathlib.Core.List.{List, [], ◌∷◌, ◌++◌}
use Prim.Native.Nat.{ℕ, zero, suc, ◌+◌, ◌-◌, ◌*◌, ◌/◌, ◌%◌, ◌^◌, ◌<◌, ◌≤◌}
use native.Mathlib.Nat.{pow-suc}
use native.Mathlib.Numerals.{add-one}
use native.Mathlib.Omega.{arith}
use lib.ListN.{length, drop, set, get_or, length-append, length-drop}
use lib.Seq.{sets, set_comm, take-suc, get_or-drop}
use Rattle.octets.specs.Number.{Octets, part, number, number_at, in_octets}
use Rattle.octets.specs.Buffer.{put}
use Rattle.octets.proofs.Numbers.{number-snoc, number_more}
use Rattle.octets.proofs.Put.{put-put}

pub length-in_octets : (w n : ℕ) → length (in_octets w n) ≡ w
unfolding in_octets
length-in_octets zero n = refl
length-in_octets (suc w) n = length-append (in_octets w (n / 256)) (n % 256 ∷ []) ∙ rw (length-in_octets w (n / 256)) (omega arith)

-- written, then read
pub number-in_octets : (w n : ℕ) → n < 256 ^ w → number (in_octets w n) ≡ n
unfolding in_octets number
number-in_octets zero n h = omega arith
number-in_octets (suc w) n h =
    let k : n < 256 ^ w * 256 = rw pow-suc at h in
    let l : n / 256 < 256 ^ w = omega arith in
    number-snoc (in_octets w (n / 256)) (n % 256) ∙ rw (number-in_octets w (n / 256) l) (omega arith)

-- read, then written
pub in_octets-part : (xs : List ℕ) (at w : ℕ) → Octets xs → at + w ≤ length xs → in_octets w (number_at xs at w) ≡ part at w xs
unfolding in_octets
in_octets-part xs at zero o h = refl
in_octets-part xs at (suc w) o h =
    let v = number_at xs at w in
    let x = get_or xs (at + w) 0 in
    let below : x < 256 = o (at + w) in
    let e : number_at xs at (suc w) ≡ v * 256 + x = sym (rw add-one at (number_more xs at v w (omega arith) refl)) in
    let q : (v * 256 + x) / 256 ≡ v = omega arith in
    let r : (v * 256 + x) % 256 ≡ x = omega arith in
    let l : w < length (drop at xs) = omega (arith, length-drop at xs) in
    rw (e, q, r, in_octets-part xs at w o (omega arith), take-suc (drop at xs) w 0 l, get_or-drop)

-- a store behind a run of stores
pub set-behind : (ds xs : List ℕ) (a b v : ℕ) → a + length ds ≤ b → set (put xs a ds) b v ≡ put (set xs b v) a ds
unfolding put
set-behind [] xs a b v l = refl
set-behind (d ∷ ds) xs a b v l =
    set-behind ds (set xs a d) (suc a) b v (omega arith) ∙ ap (λ (ys : List ℕ). sets ys (suc a) ds) (set_comm xs a b d v (λ q. omega arith))

-- the last store made first
pub put_last : (ds xs : List ℕ) (at k v : ℕ) → length ds ≡ k → put (set xs (at + k) v) at ds ≡ put xs at (ds ++ (v ∷ []))
unfolding put
put_last ds xs at k v e =
    sym (set-behind ds xs at (at + k) v (omega arith)) ∙ ap (λ (j : ℕ). set (put xs at ds) (at + j) v) (sym e) ∙ put-put ds xs at (v ∷ [])

-- a number, written from its last octet on: a turn, and the end
module _ (goal dst : List ℕ) (at left : ℕ) where
  pub store-more : (i : ℕ) → 0 < i → goal ≡ put dst at (in_octets i left) → {q r : ℕ} → q ≡ left / 256 → r ≡ left % 256
      → goal ≡ put (set dst (at + (i - 1)) r) at (in_octets (i - 1) q)
  unfolding in_octets
  store-more zero h e a b = absurd (omega arith)
  store-more (suc k) h e {q} {r} a b =
      let p : suc k - 1 ≡ k = omega arith in
      rw (p, a, b) (e ∙ sym (put_last (in_octets k (left / 256)) dst at k (left % 256) (length-in_octets k (left / 256))))

  pub store-all : (i : ℕ) → i ≤ 0 → goal ≡ put dst at (in_octets i left) → dst ≡ goal
  unfolding in_octets put
  store-all zero h e = sym e
  store-all (suc i) h e = absurd (omega arith)
