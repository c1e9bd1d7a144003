-- The desk of a channel is the first place at which it is named, and none if it is named nowhere. Assumes nothing.
use Rattle.std.specs.Prelude.{Option, Some, None}
use mathlib.Core.Path.{◌≡◌, refl}
use mathlib.Core.List.{List, [], ◌∷◌}
use Prim.Native.Nat.{ℕ, zero, suc, ◌+◌, ◌<◌}
use native.Mathlib.Nat.{add-zero, add-suc, suc-add}
use native.Mathlib.Omega.{arith}
use borrow.Author.Tests.{eq-eqb, ne_eqb, eqb-true, eqb-false}
use lib.Dec.{eqb}
use lib.ListN.{length, get_or}
use Rattle.octets.proofs.Lists.{if-cases}
use Rattle.frame.specs.declared.Channel.{Channel}
use Rattle.frame.specs.Kinds.{desk_from, desk_of}

-- the channel c is named at place i of ws, and not before; d, which stands past the end of ws, does not matter
pub record Stands (c d : Channel) (ws : List Channel) (i : ℕ) : Type 0 where
  pub within : i < length ws
  pub same : (get_or ws i d).0 ≡ c.0
  pub first : (j : ℕ) → j < i → (get_or ws j d).0 ≡ c.0 → ⊥

-- the channel c is named nowhere in ws
abbrev pub Nowhere : Channel → Channel → List Channel → Type 0
Nowhere c d ws = (i : ℕ) → i < length ws → (get_or ws i d).0 ≡ c.0 → ⊥

module _ (c d : Channel) where
  stands_here : (w : Channel) (ws : List Channel) → w.0 ≡ c.0 → Stands c d (w ∷ ws) 0
  stands_here w ws e = record { within = omega arith; same = e; first = λ j h. absurd (omega arith) }

  stands-later : (w : Channel) (ws : List Channel) (i : ℕ) → (w.0 ≡ c.0 → ⊥) → Stands c d ws i → Stands c d (w ∷ ws) (suc i)
  stands-later w ws i n s = record { within = omega (arith, s.within); same = s.same; first = before }
    where
      before : (j : ℕ) → j < suc i → (get_or (w ∷ ws) j d).0 ≡ c.0 → ⊥
      before zero h = n
      before (suc j) h = s.first j (omega arith)

  stands-behind : (w : Channel) (ws : List Channel) (i : ℕ) → Stands c d (w ∷ ws) (suc i) → Stands c d ws i
  stands-behind w ws i s = record { within = omega (arith, s.within); same = s.same; first = λ j h. s.first (suc j) (omega arith) }

  -- the search from place k on, both ways
  Found : ℕ → ℕ → List Channel → Type 0
  Found k i ws = (j : ℕ) × (i ≡ k + j) × Stands c d ws j

  found : (k i : ℕ) (ws : List Channel) → desk_from k ws c ≡ Some i → Found k i ws
  unfolding desk_from Found
  found k i [] = λ e. absurd (let z : ◌≡◌ {A = ℕ} 0 1 = cc in omega arith)
  found k i (w ∷ ws) =
      if-cases (λ (x : Option ℕ). x ≡ Some i → Found k i (w ∷ ws)) (eqb w.0 c.0)
      (λ t e. (0, let z : k ≡ i = cc in omega arith, stands_here w ws (eqb-true _ _ t)))
      (λ t e. let s = found (suc k) i ws e in (suc s.0, omega (arith, s.1), stands-later w ws s.0 (eqb-false _ _ t) s.2))

  missed : (k : ℕ) (ws : List Channel) → desk_from k ws c ≡ None → Nowhere c d ws
  unfolding desk_from
  missed k [] = λ e i h. absurd (omega arith)
  missed k (w ∷ ws) =
      if-cases (λ (x : Option ℕ). x ≡ None → Nowhere c d (w ∷ ws)) (eqb w.0 c.0)
      (λ t e. absurd (let z : ◌≡◌ {A = ℕ} 0 1 = cc in omega arith))
      (λ t e. behind (eqb-false _ _ t) (missed (suc k) ws e))
    where
      behind : (w.0 ≡ c.0 → ⊥) → Nowhere c d ws → Nowhere c d (w ∷ ws)
      behind n more zero h = n
      behind n more (suc i) h = more i (omega arith)

  finds : (k i : ℕ) (ws : List Channel) → Stands c d ws i → desk_from k ws c ≡ Some (k + i)
  unfolding desk_from
  finds k i [] s = absurd (omega (arith, s.within))
  finds k zero (w ∷ ws) s = rw (eq-eqb _ _ s.same, add-zero)
  finds k (suc i) (w ∷ ws) s = rw (ne_eqb _ _ (s.first 0 (omega arith)), add-suc, ← suc-add) (finds (suc k) i ws (stands-behind w ws i s))

  misses : (k : ℕ) (ws : List Channel) → Nowhere c d ws → desk_from k ws c ≡ None
  unfolding desk_from
  misses k [] n = refl
  misses k (w ∷ ws) n = rw (ne_eqb _ _ (n 0 (omega arith))) (misses (suc k) ws (λ i h. n (suc i) (omega arith)))

  module _ (ws : List Channel) where
    pub desk-at : (i : ℕ) → desk_of ws c ≡ Some i → Stands c d ws i
    unfolding desk_of Found
    desk-at i e =
        let s = found 0 i ws e in
        let z : s.0 ≡ i = omega (arith, s.1) in
        rw z at s.2

    pub at-desk : (i : ℕ) → Stands c d ws i → desk_of ws c ≡ Some i
    unfolding desk_of
    at-desk i s =
        let z : 0 + i ≡ i = omega arith in
        rw z at (finds 0 i ws s)

    pub no-desk : Nowhere c d ws → desk_of ws c ≡ None
    unfolding desk_of
    no-desk n = misses 0 ws n
