-- What `?` hands on: the refusal as it came; and what `ok_or` before it says of an absence. Assumes nothing.
use Rattle.std.specs.Prelude.{Result, Ok, Err, IsErrAnd, Option, Some, None, ok_or}
use Rattle.std.specs.Result.{result_ok}
use mathlib.Core.Path.{◌≡◌, refl, ap, ◌∙◌}
use Prim.Native.Nat.{ℕ}
use native.Mathlib.Omega.{arith}
use Rattle.refusals.specs.declared.Refusal.{Refusal}

pub passed_on : {A : Type 0} {e : Refusal} (r : Result A Refusal) → IsErrAnd r (λ x. x ≡ e) → r ≡ Err e
passed_on (Ok a) h = absurd h
passed_on (Err x) h = ap Err h

-- what `ok_or(e)?` hands on: its refusal, where there was nothing
pub absent : {A B : Type 0} {e x : Refusal} (o : Option A) {r : Result A Refusal} (s : Result B Refusal) → r ≡ ok_or o e → r ≡ Err x
    → IsErrAnd s (λ y. y ≡ x) → (o ≡ None) × (s ≡ Err e)
absent (Some a) s is was h = absurd (let never : ◌≡◌ {A = ℕ} 0 1 = cc in omega arith)
absent {A} {B} {e} {x} None s is was h =
    let same : x ≡ e = cc in
    (refl, passed_on s h ∙ ap Err same)

-- and that where it goes on there was something
pub present : {A : Type 0} {a : A} {o : Option A} {r : Result A Refusal} → o ≡ result_ok r → r ≡ Ok a → o ≡ Some a
present is was = is ∙ ap result_ok was
