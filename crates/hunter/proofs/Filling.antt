-- From a marker that waits to its frame, or to more that waits. Assumes nothing.
use mathlib.Core.Path.{◌≡◌, refl, sym, ap, ap₂, ◌∙◌}
use mathlib.Core.Bool.{true, false}
use mathlib.Core.List.{List, [], ◌++◌}
use Prim.Native.Nat.{ℕ, ◌+◌, ◌-◌, ◌≤◌, ◌<◌}
use native.Mathlib.Omega.{arith}
use borrow.Author.Tests.{lt-ltb, le-ltb}
use lib.ListN.{length, take, drop, replicate, length-append, length-drop, length-replicate}
use lib.Seq.{take_at, drop-append-add, take-append-add}
use Rattle.octets.specs.Number.{part}
use Rattle.octets.specs.Buffer.{put}
use Rattle.octets.proofs.Lists.{whole-rest, whole_part, drop-replicate}
use Rattle.octets.proofs.Put.{put-parts, put-put, put_whole}
use Rattle.frame.specs.Header.{marker}
use Rattle.stream.specs.declared.Hunter.{Hunter}
use Rattle.stream.specs.Stream.{righted}
use Rattle.stream.specs.Hunter.{held, holding, hunt_gives}
use Rattle.stream.proofs.Sounding.{waiting-holding}
use Rattle.hunter.specs.Contract.{filling, filled, Settled}

-- octets stored behind w, in a buffer of w and z
put-seam : (w z ys : List ℕ) → length ys ≤ length z → put (w ++ z) (length w) ys ≡ w ++ ys ++ drop (length ys) z
put-seam w z ys l =
    put-parts (w ++ z) (length w) ys (omega (arith, length-append w z))
    ∙ ap₂ (λ (a b : List ℕ). a ++ ys ++ b) (take_at w z (length w) refl) (drop-append-add w z (length ys))

-- and in a buffer of m octets, w and zeros
pub put-behind : (m : ℕ) (w ys : List ℕ) → length w + length ys ≤ m
    → put (w ++ replicate (m - length w) 0) (length w) ys ≡ w ++ ys ++ replicate (m - length (w ++ ys)) 0
put-behind m w ys l =
    let n : m - length w - length ys ≡ m - length (w ++ ys) = omega (arith, length-append w ys) in
    put-seam w (replicate (m - length w) 0) ys (omega (arith, length-replicate {A = ℕ} (m - length w) 0))
    ∙ ap (λ (z : List ℕ). w ++ ys ++ z) (drop-replicate (length ys) (m - length w) 0 ∙ ap (λ (j : ℕ). replicate j 0) n)

-- a hunter whose octets are stored behind those that wait holds them too
pub holds_more : (h : Hunter) (ys os : List ℕ) (n : ℕ) → h ≡ holding h.k (held h) → h.waiting + length ys ≤ 1024 → n ≡ h.waiting + length ys
    → os ≡ put h.octets h.waiting ys → ◌≡◌ {A = Hunter} (record { begun = true; k = h.k; waiting = n; octets = os }) (holding h.k (held h ++ ys))
unfolding holding
holds_more h ys os n form fits count e =
    let w : length (held h) ≡ h.waiting = sym (ap (λ (x : Hunter). x.waiting) form) in
    let all : n ≡ length (held h ++ ys) = count ∙ omega (arith, length-append (held h) ys) in
    let l : length (held h) + length ys ≤ 1024 = omega arith in
    let q : os ≡ held h ++ ys ++ replicate (1024 - length (held h ++ ys)) 0 =
    e ∙ ap₂ (λ (a : List ℕ) (m : ℕ). put a m ys) (ap (λ (x : Hunter). x.octets) form) (sym w) ∙ put-behind 1024 (held h) ys l in
    λ i. record { begun = true; k = h.k; waiting = all i; octets = q i }

-- a whole buffer with the marker put in front
put-marker : (f : List ℕ) → 4 ≤ length f → put f 0 marker ≡ righted f
unfolding righted
put-marker f l = put-parts f 0 marker l

module _ (h : Hunter) (xs : List ℕ) (at : ℕ) (buffer : List ℕ) (s : Settled h xs at buffer) where
  waiting-length : length (held h) ≡ h.waiting
  waiting-length = sym (ap (λ (x : Hunter). x.waiting) s.form ∙ waiting-holding h.k (held h))

  filling-length : length (filling h at xs) ≡ h.waiting + (length xs - at)
  filling-length = length-append (held h) (drop at xs) ∙ ap₂ (λ (a b : ℕ). a + b) waiting-length (length-drop at xs)

  pub fill-short : (os : List ℕ) → length xs - at < 1024 - h.waiting → os ≡ put h.octets h.waiting (part at (length xs - at) xs)
      → hunt_gives 0 (length xs) false (record { begun = true; k = h.k; waiting = h.waiting + (length xs - at); octets = os }) buffer ≡ filled h at xs buffer
  unfolding filled
  fill-short os few e =
      let n = filling-length in
      let l = s.less in
      let d = length-drop at xs in
      let g = holds_more h (drop at xs) os (h.waiting + (length xs - at)) s.form (omega arith) (omega arith) (e ∙ ap (put h.octets h.waiting) (whole-rest xs at)) in
      rw (lt-ltb (length (filling h at xs)) 1024 (omega arith)) (ap (λ (x : Hunter). hunt_gives 0 (length xs) false x buffer) g)

  -- three copies: what waits, the rest of the frame, the marker
  pub fill-whole : (a b c : List ℕ) → 1024 - h.waiting ≤ length xs - at → a ≡ put buffer 0 (held h)
      → b ≡ put a h.waiting (part at (at + (1024 - h.waiting) - at) xs) → c ≡ put b 0 marker
      → hunt_gives 0 (at + (1024 - h.waiting)) true (record { begun = true; k = h.k; waiting = 0; octets = replicate 1024 0 }) c ≡ filled h at xs buffer
  unfolding filled holding
  fill-whole a b c enough e f g =
      let l = s.less in
      let w = waiting-length in
      let n = filling-length in
      let room = s.room in
      let inside = s.inside in
      let need : at + (1024 - h.waiting) - at ≡ 1024 - h.waiting = omega arith in
      let rest = part at (1024 - h.waiting) xs in
      let size : length rest ≡ 1024 - h.waiting = whole_part xs at (1024 - h.waiting) (omega arith) in
      let both : length (held h ++ rest) ≡ 1024 = length-append (held h) rest ∙ omega arith in
      let place : h.waiting ≡ 0 + length (held h) = omega arith in
      let seam : 1024 ≡ length (held h) + (1024 - h.waiting) = omega arith in
      let parts : put (put buffer 0 (held h)) h.waiting rest ≡ held h ++ rest =
      ap (λ (m : ℕ). put (put buffer 0 (held h)) m rest) place ∙ put-put (held h) buffer 0 rest ∙ put_whole buffer (held h ++ rest) (omega arith) in
      let wholly : take 1024 (filling h at xs) ≡ held h ++ rest =
      ap (λ (m : ℕ). take m (filling h at xs)) seam ∙ take-append-add (held h) (drop at xs) (1024 - h.waiting) in
      let frame : c ≡ righted (take 1024 (filling h at xs)) =
      g ∙ ap (λ (t : List ℕ). put t 0 marker) (f ∙ ap₂ (λ (y : List ℕ) (m : ℕ). put y h.waiting (part at m xs)) e need ∙ parts)
      ∙ put-marker (held h ++ rest) (omega arith) ∙ ap righted (sym wholly) in
      rw (le-ltb (length (filling h at xs)) 1024 (omega arith)) (ap (λ (t : List ℕ). hunt_gives 0 (at + (1024 - h.waiting)) true (holding h.k []) t) frame)
