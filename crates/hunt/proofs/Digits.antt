-- The k that the command's words choose is the page's. Assumes nothing.
use mathlib.Core.Path.{◌≡◌, refl, sym, ◌∙◌, subst}
use mathlib.Core.List.{List, [], ◌∷◌}
use Prim.Native.Nat.{ℕ, ◌+◌, ◌-◌, ◌≤◌, ◌<◌}
use native.Mathlib.Decide.{dec_lt, ℕ_discrete}
use native.Mathlib.Omega.{arith}
use borrow.Author.Tests.{eq-eqb, ne_eqb, le-leb, lt-leb}
use Rattle.hunt.specs.Words.{digit_of, chosen_by, Chooses}
use Rattle.hunt.specs.Words.Chooses.{none, one}

-- ---- one octet

module _ (d : ℕ) where
  digit-under : d < 48 → digit_of (d ∷ []) ≡ 255
  digit-under h = rw (lt-leb 48 d h)

  digit-above : 57 < d → digit_of (d ∷ []) ≡ 255
  digit-above h = rw (le-leb 48 d (omega arith), lt-leb d 57 h)

  digit_value : 48 ≤ d → d ≤ 57 → digit_of (d ∷ []) ≡ d - 48
  digit_value a b = rw (le-leb 48 d a, le-leb d 57 b)

-- ---- the words

module _ (words : ℕ) (first : List ℕ) where
  no_word : words < 2 → 0 ≡ chosen_by words first
  unfolding chosen_by
  no_word h = rw (le-leb words 1 (omega arith))

  many-words : 2 < words → 255 ≡ chosen_by words first
  unfolding chosen_by
  many-words h = rw (lt-leb words 1 (omega arith), ne_eqb words 2 (omega arith))

  one_word : words ≡ 2 → chosen_by words first ≡ digit_of first
  unfolding chosen_by
  one_word e = rw (lt-leb words 1 (omega arith), eq-eqb words 2 e)

-- ---- the page: a k up to 3 comes of the words that choose it, and of no others

pub chosen-so : {words k : ℕ} {first : List ℕ} → Chooses words first k → chosen_by words first ≡ k
chosen-so {words} {first = first} (none h) = sym (no_word words first (omega arith))
chosen-so {k = k} (one h) = one_word 2 ((48 + k) ∷ []) refl ∙ digit_value (48 + k) (omega arith) (omega arith) ∙ omega arith

one-so : (ds : List ℕ) → digit_of ds ≤ 3 → Chooses 2 ds (digit_of ds)
one-so [] h = absurd (omega arith)
one-so (d ∷ e ∷ ds) h = absurd (omega arith)
one-so (d ∷ []) h =
    elim (dec_lt d 48) [
      | yes l ↦ absurd (omega (arith, digit-under d l))
      | no a ↦ elim (dec_lt 57 d) [
        | yes l ↦ absurd (omega (arith, digit-above d l))
        | no b ↦
            let v = digit_value d (omega arith) (omega arith) in
            let back : 48 + (d - 48) ≡ d = omega arith in
            rw v (subst (λ (x : ℕ). Chooses 2 (x ∷ []) (d - 48)) back (one (omega (arith, v))))
      ]
    ]

pub only_so : (words : ℕ) (first : List ℕ) → chosen_by words first ≤ 3 → Chooses words first (chosen_by words first)
only_so words first h =
    elim (dec_lt words 2) [
      | yes l ↦ subst (Chooses words first) (no_word words first l) (none (omega arith))
      | no m ↦ elim (ℕ_discrete words 2) [
        | yes e ↦
            let v = one_word words first e in
            rw (v, e) (one-so first (omega (arith, v)))
        | no n ↦ absurd (omega (arith, many-words words first (omega arith)))
      ]
    ]
