-- The mixing: octet by octet, period by period, and undone by itself. Assumes nothing.
use mathlib.Core.Path.{◌≡◌, refl, sym, ap, ap₂, ◌∙◌}
use mathlib.Core.List.{List, [], ◌∷◌, ◌++◌}
use Prim.Native.Nat.{ℕ, zero, suc, ◌+◌, ◌*◌, ◌%◌, ◌<◌, ◌≤◌}
use native.Mathlib.Nat.{le_of_suc-le-suc, not-suc-le-zero}
use native.Mathlib.Omega.{arith}
use lib.Bits.{bit_xor, xor_lt}
use lib.ListN.{length, get_or, set, drop, drop_of_length-le, take-append-drop}
use lib.Seq.{drop-drop}
use Rattle.octets.specs.Number.{Octets, part}
use Rattle.octets.specs.Buffer.{put}
use Rattle.octets.proofs.Lists.{whole_part, part_at}
use Rattle.octets.proofs.Put.{put-nil, put-put, put_whole, copy_more, copy-all}
use Rattle.octets.proofs.Xor.{xor-cancel}
use Rattle.noise.specs.Noise.{octet_from, noise_at, noise_from, period, xored, mixed_from, mixed}
use Rattle.noise.proofs.Rule.{octet-below, noise-mod}

length-mixed_from : (i : ℕ) (xs : List ℕ) → length (mixed_from i xs) ≡ length xs
unfolding mixed_from
length-mixed_from i [] = refl
length-mixed_from i (x ∷ xs) = ap suc (length-mixed_from (suc i) xs)

pub length-mixed : (xs : List ℕ) → length (mixed xs) ≡ length xs
unfolding mixed
length-mixed xs = length-mixed_from 0 xs

twice : (i : ℕ) (xs : List ℕ) → mixed_from i (mixed_from i xs) ≡ xs
unfolding mixed_from
twice i [] = refl
twice i (x ∷ xs) = ap₂ ◌∷◌ (xor-cancel x (noise_at i)) (twice (suc i) xs)

pub mixed-twice : (xs : List ℕ) → mixed (mixed xs) ≡ xs
unfolding mixed
mixed-twice xs = twice 0 xs

get_or-mixed_from : (k i : ℕ) (xs : List ℕ) → i < length xs → get_or (mixed_from k xs) i 0 ≡ bit_xor (get_or xs i 0) (noise_at (k + i))
unfolding mixed_from
get_or-mixed_from k i [] h = absurd (not-suc-le-zero h)
get_or-mixed_from k zero (x ∷ xs) h = ap (λ (n : ℕ). bit_xor x (noise_at n)) (omega arith)
get_or-mixed_from k (suc i) (x ∷ xs) h =
    get_or-mixed_from (suc k) i xs (le_of_suc-le-suc h) ∙ ap (λ (n : ℕ). bit_xor (get_or xs i 0) (noise_at n)) (omega arith)

pub get_or-mixed : (i : ℕ) (xs : List ℕ) → i < length xs → get_or (mixed xs) i 0 ≡ bit_xor (get_or xs i 0) (noise_at i)
unfolding mixed
get_or-mixed i xs h = get_or-mixed_from 0 i xs h ∙ ap (λ (n : ℕ). bit_xor (get_or xs i 0) (noise_at n)) (omega arith)

-- octets stay octets
octets-mixed_from : (i : ℕ) (xs : List ℕ) → Octets xs → Octets (mixed_from i xs)
unfolding mixed_from noise_at
octets-mixed_from i [] h k = h k
octets-mixed_from i (x ∷ xs) h zero = xor_lt 8 x (octet_from (8 * i)) (h 0) (octet-below (8 * i))
octets-mixed_from i (x ∷ xs) h (suc k) = octets-mixed_from (suc i) xs (λ (j : ℕ). h (suc j)) k

pub octets-mixed : (xs : List ℕ) → Octets xs → Octets (mixed xs)
unfolding mixed
octets-mixed xs h = octets-mixed_from 0 xs h

mixed-append : (i : ℕ) (xs ys : List ℕ) → mixed_from i (xs ++ ys) ≡ mixed_from i xs ++ mixed_from (i + length xs) ys
unfolding mixed_from
mixed-append i [] ys = ap (λ (n : ℕ). mixed_from n ys) (omega arith)
mixed-append i (x ∷ xs) ys =
    ap (λ (l : List ℕ). bit_xor x (noise_at i) ∷ l)
    (mixed-append (suc i) xs ys ∙ ap (λ (n : ℕ). mixed_from (suc i) xs ++ mixed_from n ys) (omega arith))

-- from any place of the sequence where it stands as at another
mixed-same : (i j : ℕ) (xs : List ℕ) → i % 255 ≡ j % 255 → mixed_from i xs ≡ mixed_from j xs
unfolding mixed_from
mixed-same i j [] e = refl
mixed-same i j (x ∷ xs) e =
    ap₂ ◌∷◌ (ap (bit_xor x) (sym (noise-mod i) ∙ ap noise_at e ∙ noise-mod j)) (mixed-same (suc i) (suc j) xs (omega arith))

length-xored : (xs ys : List ℕ) → length xs ≤ length ys → length (xored xs ys) ≡ length xs
unfolding xored
length-xored [] ys h = refl
length-xored (x ∷ xs) [] h = absurd (not-suc-le-zero h)
length-xored (x ∷ xs) (y ∷ ys) h = ap suc (length-xored xs ys (le_of_suc-le-suc h))

get_or-xored : (i : ℕ) (xs ys : List ℕ) → i < length xs → i < length ys → get_or (xored xs ys) i 0 ≡ bit_xor (get_or xs i 0) (get_or ys i 0)
unfolding xored
get_or-xored i [] ys h k = absurd (not-suc-le-zero h)
get_or-xored i (x ∷ xs) [] h k = absurd (not-suc-le-zero k)
get_or-xored zero (x ∷ xs) (y ∷ ys) h k = refl
get_or-xored (suc i) (x ∷ xs) (y ∷ ys) h k = get_or-xored i xs ys (le_of_suc-le-suc h) (le_of_suc-le-suc k)

-- the others are octets of the sequence
xored-noise : (k i : ℕ) (xs : List ℕ) → length xs ≤ k → xored xs (noise_from k i) ≡ mixed_from i xs
unfolding xored noise_from mixed_from
xored-noise k i [] h = refl
xored-noise zero i (x ∷ xs) h = absurd (not-suc-le-zero h)
xored-noise (suc k) i (x ∷ xs) h = ap (λ (l : List ℕ). bit_xor x (noise_at i) ∷ l) (xored-noise k (suc i) xs (le_of_suc-le-suc h))

xored-period : (xs : List ℕ) → length xs ≤ 255 → xored xs period ≡ mixed_from 0 xs
unfolding period
xored-period xs h = xored-noise 255 0 xs h

-- the loop over one period: a turn, and where it ends
module _ (from table : List ℕ) (at : ℕ) (f : at + 255 ≤ length from) (t : length table ≡ 255) where
  wanted : List ℕ
  wanted = xored (part at 255 from) table

  length-wanted : length wanted ≡ 255
  unfolding wanted
  length-wanted = length-xored (part at 255 from) table (omega (arith, whole_part from at 255 f)) ∙ whole_part from at 255 f

  get_or-wanted : (j : ℕ) → j < 255 → get_or wanted j 0 ≡ bit_xor (get_or from (at + j) 0) (get_or table j 0)
  unfolding wanted
  get_or-wanted j h =
      get_or-xored j (part at 255 from) table (omega (arith, whole_part from at 255 f)) (omega arith)
      ∙ ap (λ (x : ℕ). bit_xor x (get_or table j 0)) (part_at from at 255 j 0 h)

  pub period-more : (goal to : List ℕ) (j : ℕ) → j < 255 → goal ≡ put to (at + j) (drop j (xored (part at 255 from) table))
      → goal
      ≡ put (set to (at + j) (bit_xor (get_or from (at + j) 0) (get_or table j 0))) (at + (j + 1)) (drop (j + 1) (xored (part at 255 from) table))
  unfolding wanted
  period-more goal to j h e = rw (← get_or-wanted j h) (copy_more wanted at goal to j (omega (arith, length-wanted)) e)

  pub period-all : (goal to : List ℕ) (j : ℕ) → 255 ≤ j → goal ≡ put to (at + j) (drop j (xored (part at 255 from) table)) → to ≡ goal
  unfolding wanted
  period-all goal to j h e = copy-all wanted at goal to j (omega (arith, length-wanted)) e

-- the loop over the periods of a frame: where it begins, a turn, and where it ends
pub frame-none : (from to : List ℕ) → length from ≡ length to → mixed from ≡ put to 0 (mixed_from 0 from)
unfolding mixed
frame-none from to h = sym (put_whole to (mixed_from 0 from) (length-mixed_from 0 from ∙ h))

pub frame-more : (from to next : List ℕ) (at : ℕ) → at % 255 ≡ 0 → at + 255 ≤ length from
    → mixed from ≡ put to at (mixed_from at (drop at from)) → {table : List ℕ} → table ≡ period → next ≡ put to at (xored (part at 255 from) table)
    → mixed from ≡ put next (at + 255) (mixed_from (at + 255) (drop (at + 255) from))
frame-more from to next at m f e is g =
    let p : List ℕ = part at 255 from in
    let q : List ℕ = drop (at + 255) from in
    let l : length p ≡ 255 = whole_part from at 255 f in
    let cut : drop at from ≡ p ++ q =
    sym (take-append-drop 255 (drop at from)) ∙ ap (λ (ys : List ℕ). p ++ ys) (drop-drop 255 at from) in
    let mixes : xored p period ≡ mixed_from at p = xored-period p (omega arith) ∙ mixed-same 0 at p (omega arith) in
    e
    ∙ ap (put to at) (ap (mixed_from at) cut ∙ mixed-append at p q)
    ∙ sym (put-put (mixed_from at p) to at (mixed_from (at + length p) q))
    ∙ rw (length-mixed_from, l, g, is, mixes)

pub frame-all : (from to : List ℕ) (at : ℕ) → length from ≤ at → mixed from ≡ put to at (mixed_from at (drop at from)) → to ≡ mixed from
unfolding mixed_from
frame-all from to at h e = sym (e ∙ ap (λ (l : List ℕ). put to at (mixed_from at l)) (drop_of_length-le from h) ∙ put-nil to at)
