-- What is decided by a list of reasons: what was to be done where none applies, else what the first that does refuses. Assumes nothing.
use Rattle.std.specs.Prelude.{if◌then◌else◌}
use mathlib.Core.Path.{◌≡◌, refl, ap, ◌∙◌}
use mathlib.Core.Bool.{Bool, true, false}
use mathlib.Core.List.{List, [], ◌∷◌, ◌++◌}
use Prim.Native.Nat.{ℕ, ◌≤◌}
use Rattle.octets.specs.Reasons.{Reason, decided}
use Rattle.octets.specs.Reasons.Reason.{◌when◌}
use Rattle.octets.proofs.Lists.{if-cases, if-map}

-- no reason applies
abbrev pub NoneApplies : List Reason → Type 0
NoneApplies [] = Unit
NoneApplies ((n when b) ∷ rs) = (b ≡ false) × NoneApplies rs

-- the reason of n is the first that applies
pub data First : List Reason → ℕ → Type 0 where
  here : {n : ℕ} {b : Bool} {rs : List Reason} → b ≡ true → First ((n when b) ∷ rs) n
  later : {m n : ℕ} {b : Bool} {rs : List Reason} → b ≡ false → First rs m → First ((n when b) ∷ rs) m

pub decided-cases : {A : Type 0} (P : A → Type 0) (rs : List Reason) {done : A} {refused : ℕ → A}
    → (NoneApplies rs → P done) → ((n : ℕ) → First rs n → P (refused n)) → P (decided rs done refused)
decided-cases P [] d r = d tt
decided-cases P ((n when b) ∷ rs) d r =
    if-cases P b (λ e. r n (here e)) (λ e. decided-cases P rs (λ f. d (e, f)) (λ m f. r m (later e f)))

module _ {A : Type 0} (d : A) (f : ℕ → A) where
  pub none-decided : (rs : List Reason) → NoneApplies rs → decided rs d f ≡ d
  none-decided [] h = refl
  none-decided ((n when b) ∷ rs) h = rw h.0 (none-decided rs h.1)

  pub first-decided : {rs : List Reason} {n : ℕ} → First rs n → decided rs d f ≡ f n
  first-decided (here e) = rw e
  first-decided (later e h) = rw e (first-decided h)

  -- reasons after each other: the later ones decide where the earlier ones let through
  pub decided-append : (xs ys : List Reason) → decided (xs ++ ys) d f ≡ decided xs (decided ys d f) f
  decided-append [] ys = refl
  decided-append ((n when b) ∷ xs) ys = ap (λ (r : A). if b then f n else r) (decided-append xs ys)

-- a function of what is decided is decided by the same reasons
pub decided-map : {A B : Type 0} (g : A → B) (rs : List Reason) (d : A) (f : ℕ → A) → g (decided rs d f) ≡ decided rs (g d) (λ n. g (f n))
decided-map g [] d f = refl
decided-map {A} {B} g ((n when b) ∷ rs) d f =
    if-map g b (f n) (decided rs d f) ∙ ap (λ (r : B). if b then g (f n) else r) (decided-map g rs d f)

-- where no refusal is taken for what was to be done, the outcome tells that no reason applied
pub decided-none : {A : Type 0} (rs : List Reason) {d : A} {f : ℕ → A} → ((n : ℕ) → f n ≡ d → ⊥) → decided rs d f ≡ d → NoneApplies rs
decided-none rs {d} {f} apart =
    decided-cases (λ (r : _). r ≡ d → NoneApplies rs) rs (λ none e. none) (λ n first e. absurd (apart n e))

-- a refusal is given whatever was to be done
pub decided-kept : {A : Type 0} (rs : List Reason) (d' : A) (f : ℕ → A) {d a : A} → (d ≡ a → ⊥) → decided rs d f ≡ a → decided rs d' f ≡ a
decided-kept rs d' f {d} {a} apart =
    decided-cases (λ (r : _). r ≡ a → decided rs d' f ≡ a) rs (λ none e. absurd (apart e)) (λ n first e. first-decided d' f first ∙ e)

pub none-append : (xs ys : List Reason) → NoneApplies (xs ++ ys) → NoneApplies xs × NoneApplies ys
none-append [] ys h = (tt, h)
none-append ((n when b) ∷ xs) ys h =
    let (front, back) = none-append xs ys h.1 in
    ((h.0, front), back)

-- every number that can be given lies between two
abbrev pub Between : ℕ → ℕ → List Reason → Type 0
Between low high [] = Unit
Between low high ((n when b) ∷ rs) = ((low ≤ n) × (n ≤ high)) × Between low high rs

module _ (low high : ℕ) where
  pub between-append : (xs ys : List Reason) → Between low high xs → Between low high ys → Between low high (xs ++ ys)
  between-append [] ys h k = k
  between-append ((n when b) ∷ xs) ys h k = (h.0, between-append xs ys h.1 k)

  pub first-between : {rs : List Reason} {n : ℕ} → First rs n → Between low high rs → (low ≤ n) × (n ≤ high)
  first-between (here e) h = h.0
  first-between (later e f) h = first-between f h.1
