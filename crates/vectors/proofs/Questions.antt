-- The three forms that a line can have behind its letter. Assumes nothing.
use Rattle.std.specs.Prelude.{Some, None}
use mathlib.Core.Path.{◌≡◌, refl, sym, ap, ◌∙◌}
use mathlib.Core.List.{List, [], ◌∷◌}
use Prim.Native.Nat.{ℕ, ◌-◌, ◌<◌}
use native.Mathlib.Omega.{arith}
use borrow.Author.Tests.{eq-eqb, ne_eqb}
use lib.ListN.{length, take, drop, get_or}
use Rattle.octets.proofs.Lists.{whole-rest}
use Rattle.vectors.specs.Digits.{octets_of}
use Rattle.vectors.specs.Question.{question_of}

pub letter-alone : (line : List ℕ) → length line ≡ 1 → Some [] ≡ question_of line
unfolding question_of
letter-alone [] h = absurd (omega (arith, h))
letter-alone (x ∷ []) h = refl
letter-alone (x ∷ s ∷ ds) h = absurd (omega (arith, h))

pub no-space : (line : List ℕ) → 1 < length line → (get_or line 1 0 ≡ 0x20 → ⊥) → None ≡ question_of line
unfolding question_of
no-space [] h n = absurd (omega (arith, h))
no-space (x ∷ []) h n = absurd (omega (arith, h))
no-space (x ∷ s ∷ ds) h n = sym (rw (ne_eqb s 0x20 n))

-- what stands behind the space, as `&line[2..]` has it
pub behind-space : (line : List ℕ) → 1 < length line → get_or line 1 0 ≡ 0x20
    → octets_of (take (length line - 2) (drop 2 line)) ≡ question_of line
unfolding question_of
behind-space [] h e = absurd (omega (arith, h))
behind-space (x ∷ []) h e = absurd (omega (arith, h))
behind-space (x ∷ s ∷ ds) h e = ap octets_of (whole-rest (x ∷ s ∷ ds) 2) ∙ sym (rw (eq-eqb s 0x20 e))
