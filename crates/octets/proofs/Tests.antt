-- How the outcome of a test in the code meets the same test in a definition, and tests put together by "and". Assumes nothing.
use mathlib.Core.Path.{◌≡◌, refl, sym, ◌∙◌}
use mathlib.Core.Bool.{Bool, true, false, not, ◌&&◌, and-false, false≢true}
use Prim.Native.Nat.{ℕ}
use borrow.Author.Rules.{rules}
use borrow.Author.Tests.{lt-ltb, le-ltb, le-leb, lt-leb, eq-eqb, ne_eqb, eqb-true, eqb-false, not-true, not-false}
use lib.Dec.{eqb}

-- what `search` is handed for tests of numbers
pub ruleset tests = (rules, lt-ltb, le-ltb, le-leb, lt-leb, eq-eqb, ne_eqb)

-- a test by a call, with the call's promise: `if !f(..) { .. }`, taken and left
pub denied : {r t : Bool} → r ≡ t → not r ≡ true → t ≡ false
denied {r} e h = sym e ∙ not-true r h

pub granted : {r t : Bool} → r ≡ t → not r ≡ false → t ≡ true
granted {r} e h = sym e ∙ not-false r h

-- "and"
pub and_left : (a b : Bool) → (a && b) ≡ true → a ≡ true
and_left true b e = refl
and_left false b e = e

pub and_right : (a b : Bool) → (a && b) ≡ true → b ≡ true
and_right true b e = e
and_right false b e = absurd (false≢true e)

pub and_both : {a b : Bool} → a ≡ true → b ≡ true → (a && b) ≡ true
and_both p q = rw (p, q)

pub and-exchange : (p q r s : Bool) → ((p && q) && (r && s)) ≡ ((p && r) && (q && s))
and-exchange true q true s = refl
and-exchange true q false s = and-false q
and-exchange false q r s = refl

pub true-unless : (b : Bool) → (b ≡ false → ⊥) → b ≡ true
true-unless true f = refl
true-unless false f = absurd (f refl)

-- two tests of the same
pub same_test : (a b c d : ℕ) → (a ≡ b → c ≡ d) → (c ≡ d → a ≡ b) → eqb a b ≡ eqb c d
same_test a b c d f g = go (eqb a b) refl
  where
    go : (t : Bool) → eqb a b ≡ t → eqb a b ≡ eqb c d
    go true e = e ∙ sym (eq-eqb c d (f (eqb-true a b e)))
    go false e = e ∙ sym (ne_eqb c d (λ q. eqb-false a b e (g q)))
