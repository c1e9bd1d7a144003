-- One call finds what the stream has: the ways through `search`. Assumes nothing.
use mathlib.Core.Path.{◌≡◌, refl, sym, ap, ap₂, ◌∙◌, subst}
use mathlib.Core.Bool.{true, false, true≢false}
use mathlib.Core.List.{List, [], ◌∷◌, ◌++◌, append_assoc}
use mathlib.Core.Logic.{⊎_elim}
use Prim.Native.Nat.{ℕ, zero, suc, ◌+◌, ◌-◌, ◌*◌, ◌/◌, ◌%◌, ◌^◌, ◌≤◌, ◌<◌}
use native.Mathlib.Nat.{mod-eq_of_lt}
use native.Mathlib.Omega.{arith}
use borrow.Author.Tests.{ltb-true, ltb-false}
use lib.Dec.{ltb}
use lib.ListN.{length, take, drop, replicate, length-append, length-drop, take-append-drop}
use lib.Seq.{take_at, drop-append-add, length-take-le, drop-drop}
use Rattle.octets.specs.Number.{Octets, number, number_at}
use Rattle.octets.specs.Buffer.{put}
use Rattle.octets.proofs.Lists.{if-cases}
use Rattle.octets.proofs.Numbers.{octets-take, octets-drop, number-below}
use Rattle.stream.specs.declared.Hunter.{Hunter}
use Rattle.stream.specs.declared.Sought.{Sought}
use Rattle.stream.specs.declared.Sought.TheVariants.{At, Nowhere}
use Rattle.stream.specs.Stream.{is_marker, here, righted}
use Rattle.stream.specs.Stream.Here.{Waits, Whole}
use Rattle.stream.specs.Hunter.{held, holding, Sound, passed, rest_of, seen, HuntOutcome, hunt_gives, hunt_of}
use Rattle.stream.specs.Seek.{sought_in}
use Rattle.stream.proofs.Cutting.{waits-is, passes-is, is-few, is-part, is_whole, marked_append}
use Rattle.stream.proofs.Seeking.{passed_none, seeks, Seeks, found, nowhere}
use Rattle.stream.proofs.Sounding.{sound-waiting, sound-few, sound-octets}
use Rattle.hunter.specs.Contract.{filling, filled, Settled, four_of, spread_of}
use Rattle.hunter.proofs.Filling.{put-behind, holds_more}

-- ---- what a hunt gives, by what stands at the first place that is not passed over

module _ (h : Hunter) (xs buffer : List ℕ) where
  hunt-whole : here h.k (rest_of h.k (seen h xs)) ≡ Whole
      → hunt_of h xs buffer
      ≡ hunt_gives 0 (passed h.k (seen h xs) + 1024 - h.waiting) true (holding h.k []) (righted (take 1024 (rest_of h.k (seen h xs))))
  unfolding hunt_of
  hunt-whole e = rw e

  hunt-waits : here h.k (rest_of h.k (seen h xs)) ≡ Waits
      → hunt_of h xs buffer ≡ hunt_gives 0 (length xs) false (holding h.k (rest_of h.k (seen h xs))) buffer
  unfolding hunt_of
  hunt-waits e = rw e

-- a marker: the frame is filled from there
hunt-filled : (h g : Hunter) (xs buffer : List ℕ) (at : ℕ) → is_marker h.k (rest_of h.k (seen h xs)) ≡ true
    → 4 ≤ length (rest_of h.k (seen h xs)) → filling g at xs ≡ rest_of h.k (seen h xs) → g.k ≡ h.k
    → passed h.k (seen h xs) + 1024 - h.waiting ≡ at + (1024 - g.waiting) → filled g at xs buffer ≡ hunt_of h xs buffer
unfolding filled
hunt-filled h g xs buffer at m four same k taken =
    let rest = rest_of h.k (seen h xs) in
    rw (same, k)
    (if-cases (λ (o : HuntOutcome). o ≡ hunt_of h xs buffer) (ltb (length rest) 1024)
    (λ e. sym (hunt-waits h xs buffer (is-part h.k rest four m (ltb-true _ _ e))))
    (λ e. ap (λ (t : ℕ). hunt_gives 0 t true (holding h.k []) (righted (take 1024 rest))) (sym taken)
    ∙ sym (hunt-whole h xs buffer (is_whole h.k rest m (ltb-false _ _ e)))))

-- ---- a marker waits already

module _ (h : Hunter) (s : Sound h) (xs buffer : List ℕ) (room : length buffer ≡ 1024) (f : 4 ≤ h.waiting) where
  first-marker : is_marker h.k (seen h xs) ≡ true
  first-marker =
      let n = sound-waiting h s in
      marked_append h.k (held h) xs (omega arith)
      ∙ ⊎_elim (λ a. absurd (omega arith)) (λ (a, m). m) (waits-is h.k (held h) s.still).1

  pub first-settled : Settled h xs 0 buffer
  first-settled = record { form = s.form; less = sound-few h s; more = f; inside = omega arith; room = room }

  pub first-hunt : filled h 0 xs buffer ≡ hunt_of h xs buffer
  first-hunt =
      let n = sound-waiting h s in
      let less = sound-few h s in
      let e : passed h.k (seen h xs) ≡ 0 = passed_none h.k (seen h xs) (λ p. true≢false (sym first-marker ∙ (passes-is h.k (seen h xs) p).1)) in
      let r : rest_of h.k (seen h xs) ≡ seen h xs = ap (λ (p : ℕ). drop p (seen h xs)) e in
      hunt-filled h h xs buffer 0 (ap (is_marker h.k) r ∙ first-marker) (omega (arith, ap length r, length-append (held h) xs)) (sym r) refl (omega arith)

-- ---- under four octets in all

few-hunt-at : (h : Hunter) (s : Sound h) (xs buffer : List ℕ) → h.waiting + length xs < 4
    → hunt_of h xs buffer ≡ hunt_gives 0 (length xs) false (holding h.k (seen h xs)) buffer
few-hunt-at h s xs buffer few =
    let n : length (seen h xs) ≡ h.waiting + length xs = length-append (held h) xs ∙ ap (λ (m : ℕ). m + length xs) (sound-waiting h s) in
    let e : passed h.k (seen h xs) ≡ 0 = passed_none h.k (seen h xs) (λ p. omega (arith, (passes-is h.k (seen h xs) p).0)) in
    let r : rest_of h.k (seen h xs) ≡ seen h xs = ap (λ (p : ℕ). drop p (seen h xs)) e in
    hunt-waits h xs buffer (ap (here h.k) r ∙ is-few h.k (seen h xs) (omega arith))
    ∙ ap (λ (w : List ℕ). hunt_gives 0 (length xs) false (holding h.k w) buffer) r

pub few-hunt : (h : Hunter) (s : Sound h) (xs buffer os : List ℕ) → h.waiting + length xs < 4 → os ≡ put h.octets h.waiting xs
    → hunt_gives 0 (length xs) false (record { begun = true; k = h.k; waiting = h.waiting + length xs; octets = os }) buffer ≡ hunt_of h xs buffer
few-hunt h s xs buffer os few e =
    ap (λ (x : Hunter). hunt_gives 0 (length xs) false x buffer) (holds_more h xs os (h.waiting + length xs) s.form (omega arith) refl e)
    ∙ sym (few-hunt-at h s xs buffer few)

-- ---- four octets or more, and no marker waits

-- the octets of a number
four-octets : (a b c d : ℕ) → a < 256 → b < 256 → c < 256 → d < 256 → four_of (number (a ∷ b ∷ c ∷ d ∷ [])) ≡ a ∷ b ∷ c ∷ d ∷ []
unfolding number
four-octets a b c d ha hb hc hd =
    let v = number (a ∷ b ∷ c ∷ d ∷ []) in
    let p : v / 16777216 ≡ a = omega arith in
    let q : v / 65536 % 256 ≡ b = omega arith in
    let r : v / 256 % 256 ≡ c = omega arith in
    let t : v % 256 ≡ d = omega arith in
    λ i. p i ∷ q i ∷ r i ∷ t i ∷ []

four-of : (xs : List ℕ) → length xs ≡ 4 → Octets xs → four_of (number xs) ≡ xs
four-of [] e o = absurd (omega arith)
four-of (a ∷ []) e o = absurd (omega arith)
four-of (a ∷ b ∷ []) e o = absurd (omega arith)
four-of (a ∷ b ∷ c ∷ []) e o = absurd (omega arith)
four-of (a ∷ b ∷ c ∷ d ∷ []) e o = four-octets a b c d (o 0) (o 1) (o 2) (o 3)
four-of (a ∷ b ∷ c ∷ d ∷ x ∷ xs) e o = absurd (omega arith)

-- the last three octets of a window, moved to the front
three-octets : (v a b c : ℕ) → a < 256 → b < 256 → c < 256 → v % 2 ^ 24 ≡ number (a ∷ b ∷ c ∷ [])
    → four_of (v * 256 % 2 ^ 32) ≡ a ∷ b ∷ c ∷ 0 ∷ []
unfolding number
three-octets v a b c ha hb hc e =
    let w : v * 256 % 2 ^ 32 ≡ number (a ∷ b ∷ c ∷ 0 ∷ []) = omega arith in
    ap four_of w ∙ four-octets a b c 0 ha hb hc (omega arith)

three-of : (v : ℕ) (xs : List ℕ) → length xs ≡ 3 → Octets xs → v % 2 ^ 24 ≡ number xs → spread_of (v * 256 % 2 ^ 32) ≡ xs ++ replicate 1021 0
unfolding spread_of
three-of v [] e o n = absurd (omega arith)
three-of v (a ∷ []) e o n = absurd (omega arith)
three-of v (a ∷ b ∷ []) e o n = absurd (omega arith)
three-of v (a ∷ b ∷ c ∷ []) e o n = ap (λ (xs : List ℕ). xs ++ replicate 1020 0) (three-octets v a b c (o 0) (o 1) (o 2) n)
three-of v (a ∷ b ∷ c ∷ x ∷ xs) e o n = absurd (omega arith)

-- the loop, from three octets
seeks-three : (k i : ℕ) (front xs : List ℕ) → length front ≡ 3 → Octets front → Octets xs
    → Seeks k i (front ++ xs) (sought_in k i (number front) xs)
seeks-three k i [] xs e o p = absurd (omega arith)
seeks-three k i (a ∷ []) xs e o p = absurd (omega arith)
seeks-three k i (a ∷ b ∷ []) xs e o p = absurd (omega arith)
seeks-three k i (a ∷ b ∷ c ∷ []) xs e o p =
    seeks k xs i (number (a ∷ b ∷ c ∷ [])) a b c (o 0) (o 1) (o 2) p (mod-eq_of_lt (number-below (a ∷ b ∷ c ∷ []) o))
seeks-three k i (a ∷ b ∷ c ∷ x ∷ front) xs e o p = absurd (omega arith)

octets-append : (xs ys : List ℕ) → Octets xs → Octets ys → Octets (xs ++ ys)
octets-append [] ys o p i = p i
octets-append (x ∷ xs) ys o p zero = o 0
octets-append (x ∷ xs) ys o p (suc i) = octets-append xs ys (λ j. o (suc j)) p i

-- a hunter that begins with the four octets that were found
abbrev pub started : Hunter → ℕ → Hunter
started h v = record { begun = true; k = h.k; waiting = 4; octets = spread_of v }

started-form : (h : Hunter) (v : ℕ) → started h v ≡ holding h.k (held (started h v))
unfolding spread_of holding
started-form h v = refl

started-held : (h : Hunter) (v : ℕ) → held (started h v) ≡ four_of v
unfolding spread_of
started-held h v = refl

pub record Started (h : Hunter) (xs buffer : List ℕ) (next v : ℕ) : Type 0 where
  pub settled : Settled (started h v) xs next buffer
  pub hunts : filled (started h v) next xs buffer ≡ hunt_of h xs buffer

-- no marker: the last three octets wait
abbrev pub Unfound : Hunter → List ℕ → List ℕ → ℕ → Type 0
Unfound h xs buffer v =
    hunt_gives 0 (length xs) false (record { begun = true; k = h.k; waiting = 3; octets = spread_of (v * 256 % 2 ^ 32) }) buffer ≡ hunt_of h xs buffer

module _ (h : Hunter) (s : Sound h) (xs buffer : List ℕ) (room : length buffer ≡ 1024) (few : h.waiting < 4) (enough : 4 ≤ h.waiting + length xs)
    (o : Octets xs) (q : Octets h.octets) where
  abbrev place : ℕ
  place = 3 - h.waiting

  abbrev front : List ℕ
  front = held h ++ take (3 - h.waiting) xs

  front_length : length front ≡ 3
  front_length =
      let n = sound-waiting h s in
      length-append (held h) (take place xs) ∙ omega (arith, length-take-le place xs (omega arith))

  front-seen : front ++ drop place xs ≡ seen h xs
  front-seen = append_assoc (held h) (take place xs) (drop place xs) ∙ ap (λ (ys : List ℕ). held h ++ ys) (take-append-drop place xs)

  -- the three octets are read from what waits, with the portion's first octets stored behind it
  three-read : (os : List ℕ) → os ≡ put h.octets h.waiting (take place xs) → number_at os 0 3 ≡ number front
  unfolding number_at
  three-read os e =
      let n = sound-waiting h s in
      let l : length (held h) + length (take place xs) ≤ 1024 = omega (arith, length-take-le place xs (omega arith)) in
      let w : os ≡ front ++ replicate (1024 - length front) 0 =
      e ∙ ap₂ (λ (a : List ℕ) (m : ℕ). put a m (take place xs)) (sound-octets h s) (sym n) ∙ put-behind 1024 (held h) (take place xs) l in
      ap (λ (ys : List ℕ). number (take 3 ys)) w ∙ ap number (take_at front (replicate (1024 - length front) 0) 3 front_length)

  octets-seen : Octets (seen h xs)
  octets-seen = octets-append (held h) xs (octets-take h.octets h.waiting q) o

  sought : Seeks h.k place (seen h xs) (sought_in h.k place (number front) (drop place xs))
  sought =
      subst (λ (ys : List ℕ). Seeks h.k place ys (sought_in h.k place (number front) (drop place xs))) front-seen
      (seeks-three h.k place front (drop place xs) front_length
      (octets-append (held h) (take place xs) (octets-take h.octets h.waiting q) (octets-take xs place o)) (octets-drop xs place o))

  start : (p v : ℕ) → passed h.k (seen h xs) ≡ p → p + 4 ≤ length (seen h xs) → is_marker h.k (drop p (seen h xs)) ≡ true
      → v ≡ number (take 4 (drop p (seen h xs))) → Started h xs buffer (place + suc p) v
  start p v e l m n =
      let w = sound-waiting h s in
      let all = length-append (held h) xs in
      let left = length-drop p (seen h xs) in
      let rest : rest_of h.k (seen h xs) ≡ drop p (seen h xs) = ap (λ (j : ℕ). drop j (seen h xs)) e in
      let four : four_of v ≡ take 4 (drop p (seen h xs)) =
      ap four_of n ∙ four-of (take 4 (drop p (seen h xs))) (length-take-le 4 (drop p (seen h xs)) (omega arith))
      (octets-take (drop p (seen h xs)) 4 (octets-drop (seen h xs) p octets-seen)) in
      let t : p + 4 ≡ length (held h) + (place + suc p) = omega arith in
      let behind : drop (place + suc p) xs ≡ drop 4 (drop p (seen h xs)) =
      sym (drop-drop 4 p (seen h xs) ∙ ap (λ (j : ℕ). drop j (seen h xs)) t ∙ drop-append-add (held h) xs (place + suc p)) in
      let same : filling (started h v) (place + suc p) xs ≡ rest_of h.k (seen h xs) =
      ap₂ (λ (a b : List ℕ). a ++ b) (started-held h v ∙ four) behind ∙ take-append-drop 4 (drop p (seen h xs)) ∙ sym rest in
      record {
        settled = record { form = started-form h v; less = omega arith; more = omega arith; inside = omega arith; room = room };
        hunts = hunt-filled h (started h v) xs buffer (place + suc p) (ap (is_marker h.k) rest ∙ m) (omega (arith, ap length rest)) same refl (omega arith);
      }

  by-found : {r : Sought} (next v : ℕ) → Seeks h.k place (seen h xs) r → r ≡ At next v → Started h xs buffer next v
  by-found next v (found p u e l m n) q =
      let a : place + suc p ≡ next = cc in
      let b : u ≡ v = cc in
      rw (← a, ← b) (start p u e l m n)
  by-found next v (nowhere p u e l n) q =
      let z : ◌≡◌ {A = ℕ} 0 1 = cc in
      absurd (omega arith)

  unfound : (p v : ℕ) → passed h.k (seen h xs) ≡ p → length (seen h xs) ≡ p + 3 → v % 2 ^ 24 ≡ number (drop p (seen h xs)) → Unfound h xs buffer v
  unfolding holding
  unfound p v e l n =
      let rest : rest_of h.k (seen h xs) ≡ drop p (seen h xs) = ap (λ (j : ℕ). drop j (seen h xs)) e in
      let three : length (drop p (seen h xs)) ≡ 3 = length-drop p (seen h xs) ∙ omega arith in
      let os : spread_of (v * 256 % 2 ^ 32) ≡ drop p (seen h xs) ++ replicate (1024 - length (drop p (seen h xs))) 0 =
      three-of v (drop p (seen h xs)) three (octets-drop (seen h xs) p octets-seen) n
      ∙ ap (λ (j : ℕ). drop p (seen h xs) ++ replicate (1024 - j) 0) (sym three) in
      sym (hunt-waits h xs buffer (is-few h.k (rest_of h.k (seen h xs)) (omega (arith, ap length rest)))
      ∙ ap (λ (r : List ℕ). hunt_gives 0 (length xs) false (holding h.k r) buffer) rest
      ∙ (λ i. hunt_gives 0 (length xs) false (record { begun = true; k = h.k; waiting = three i; octets = sym os i }) buffer))

  by-nowhere : {r : Sought} (v : ℕ) → Seeks h.k place (seen h xs) r → r ≡ Nowhere v → Unfound h xs buffer v
  by-nowhere v (found p u e l m n) q =
      let z : ◌≡◌ {A = ℕ} 0 1 = cc in
      absurd (omega arith)
  by-nowhere v (nowhere p u e l n) q =
      let b : u ≡ v = cc in
      rw (← b) (unfound p u e l n)

  -- what the search says, asked with those three octets
  module _ (os : List ℕ) (three : ℕ) (r : Sought) (stored : os ≡ put h.octets h.waiting (take place xs)) (read : three ≡ number_at os 0 3)
      (looked : r ≡ sought_in h.k place three (drop place xs)) where
    asked : r ≡ sought_in h.k place (number front) (drop place xs)
    asked = looked ∙ ap (λ (v : ℕ). sought_in h.k place v (drop place xs)) (read ∙ three-read os stored)

    pub sought-at : (next v : ℕ) → r ≡ At next v → Started h xs buffer next v
    sought-at next v e = by-found next v sought (sym asked ∙ e)

    pub sought-nowhere : (v : ℕ) → r ≡ Nowhere v → Unfound h xs buffer v
    sought-nowhere v e = by-nowhere v sought (sym asked ∙ e)
