-- What is decided by a list of reasons: the first that applies; and where the numbers rise, that is the lowest. Assumes nothing.
use mathlib.Core.Path.{◌≡◌, refl, sym, ap, ◌∙◌}
use mathlib.Core.Bool.{Bool, true, false, ◌&&◌, ◌||◌, and-false, or-true, true≢false, false≢true}
use mathlib.Core.Logic.{◌⊎◌, inl, inr, ⊎_elim, ◌↔◌}
use mathlib.Core.List.{List, [], ◌∷◌}
use Prim.Native.Nat.{ℕ, ◌-◌, ◌≤◌, ◌<◌}
use native.Mathlib.Omega.{arith}
use borrow.Author.Tests.{eq-eqb, eqb-true, lt-ltb, ltb-true}
use lib.Dec.{ltb, eqb}
use Rattle.octets.specs.Reasons.{Reason, decided, numbers, applies}
use Rattle.octets.specs.Reasons.Reason.{◌when◌}
use Rattle.octets.proofs.Reasons.{NoneApplies, First, decided-cases}
use Rattle.octets.proofs.Reasons.First.{here, later}
use Rattle.octets.proofs.Tests.{and_left, and_right, and_both}
use Rattle.state.specs.Decision.{among}

first-among : {rs : List Reason} {n : ℕ} → First rs n → among n (numbers rs) ≡ true
unfolding among
first-among (here {n} e) = rw (eq-eqb n n refl)
first-among (later e f) = rw (first-among f, or-true)

pub first-applies : {rs : List Reason} {n : ℕ} → First rs n → applies rs n ≡ true
first-applies (here {n} e) = rw (eq-eqb n n refl, e)
first-applies (later e f) = rw (first-applies f, or-true)

first_some : {rs : List Reason} {n : ℕ} → First rs n → NoneApplies rs → ⊥
first_some (here e) g = true≢false (sym e ∙ g.0)
first_some (later e f) g = first_some f g.1

-- each number is greater than the one before it, and than l
abbrev pub rising : ℕ → List Reason → Bool
rising l [] = true
rising l ((n when b) ∷ rs) = ltb l n && rising n rs

none-applies : (rs : List Reason) → NoneApplies rs → (m : ℕ) → applies rs m ≡ false
none-applies [] g m = refl
none-applies ((n when b) ∷ rs) g m = rw (g.0, and-false, none-applies rs g.1 m)

or_cases : (a b : Bool) → (a || b) ≡ true → (a ≡ true) ⊎ (b ≡ true)
or_cases true b e = inl e
or_cases false b e = inr e

rises : (l n : ℕ) (b : Bool) (rs : List Reason) → rising l ((n when b) ∷ rs) ≡ true → (l < n) × (rising n rs ≡ true)
rises l n b rs up = (ltb-true l n (and_left (ltb l n) (rising n rs) up), and_right (ltb l n) (rising n rs) up)

beyond : (l : ℕ) (rs : List Reason) → rising l rs ≡ true → (m : ℕ) → applies rs m ≡ true → l < m
beyond l [] up m e = absurd (false≢true e)
beyond l ((n when b) ∷ rs) up m e =
    let (over, rest) = rises l n b rs up in
    ⊎_elim (λ q. omega (arith, eqb-true n m (and_left (eqb n m) b q))) (λ q. omega (arith, beyond n rs rest m q))
    (or_cases (eqb n m && b) (applies rs m) e)

-- of numbers that rise, the first that applies is the lowest that does
first-lowest : {rs : List Reason} {n : ℕ} → First rs n → (l : ℕ) → rising l rs ≡ true → (m : ℕ) → applies rs m ≡ true → (l < n) × (n ≤ m)
first-lowest (here {n} {b} {rs} p) l up m e =
    let (over, rest) = rises l n b rs up in
    let before : n - 1 < n = omega arith in
    (over, omega (arith, beyond (n - 1) ((n when b) ∷ rs) (and_both (lt-ltb (n - 1) n before) rest) m e))
first-lowest (later {n = k} {b = b} {rs = rs} p f) l up m e =
    let (over, rest) = rises l k b rs up in
    let lowest = first-lowest f k rest m (rw (p, and-false) at e) in
    (omega (arith, lowest.0), lowest.1)

-- the outcome r of a call with these reasons: d where none applies, else f of the number
pub record Outcome {A : Type 0} (answer : A → ℕ) (rs : List Reason) (d : A) (f : ℕ → A) (r : A) : Type 0 where
  pub one_of : among (answer r) (0 ∷ numbers rs) ≡ true
  pub zero : (answer r ≡ 0) ↔ NoneApplies rs
  pub done : answer r ≡ 0 → r ≡ d
  -- "Every number but 0 carries no other result and changes nothing"
  pub refused : (answer r ≡ 0 → ⊥) → (r ≡ f (answer r)) × (applies rs (answer r) ≡ true)
  -- "The lowest number that applies is given"
  pub lowest : rising 0 rs ≡ true → (m : ℕ) → applies rs m ≡ true → (1 ≤ answer r) × (answer r ≤ m)

pub outcome : {A : Type 0} (answer : A → ℕ) (rs : List Reason) (d : A) (f : ℕ → A) → answer d ≡ 0 → ((n : ℕ) → answer (f n) ≡ n)
    → among 0 (numbers rs) ≡ false → Outcome answer rs d f (decided rs d f)
unfolding among
outcome answer rs d f zero number counted =
    decided-cases (Outcome answer rs d f) rs
    (λ g.
    record {
      one_of = rw zero refl;
      zero = (λ e. g, λ h. zero);
      done = λ e. refl;
      refused = λ n. absurd (n zero);
      lowest = λ up m e. absurd (true≢false (sym e ∙ none-applies rs g m));
    })
    (λ n g.
    let some : n ≡ 0 → ⊥ = λ e. true≢false (sym (first-among g) ∙ rw e counted) in
    record {
      one_of = ap (λ (m : ℕ). among m (0 ∷ numbers rs)) (number n) ∙ rw (first-among g, or-true);
      zero = (λ e. absurd (some (sym (number n) ∙ e)), λ h. absurd (first_some g h));
      done = λ e. absurd (some (sym (number n) ∙ e));
      refused = λ h. rw (number n) (refl, first-applies g);
      lowest = λ up m e. rw (number n) (first-lowest g 0 up m e);
    })

-- a number whose reason does not apply is not given
pub never : {A : Type 0} {answer : A → ℕ} {rs : List Reason} {d : A} {f : ℕ → A} {r : A} → Outcome answer rs d f r
    → (m : ℕ) → 1 ≤ m → applies rs m ≡ false → answer r ≡ m → ⊥
never {rs = rs} o m some off e = true≢false (sym (o.refused (λ z. omega arith)).1 ∙ ap (applies rs) e ∙ off)
