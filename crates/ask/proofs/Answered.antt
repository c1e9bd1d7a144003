-- An absence that was refused, or none; and what a question is answered where a catalogue was found. Assumes nothing.
use Rattle.std.specs.Prelude.{Option, Some, None, Result, Ok, Err, ok_or, is_some, IfSome}
use mathlib.Core.Bool.{Bool, true, false}
use mathlib.Core.Path.{◌≡◌, refl, sym, ap, ◌∙◌}
use mathlib.Core.List.{List, []}
use Prim.Native.Nat.{ℕ, ◌<◌, ◌≤◌}
use native.Mathlib.Omega.{arith}
use borrow.Author.Tests.{ltb-true, ltb-false, leb-true, leb-false}
use lib.ListN.{length, get_or}
use Rattle.refusals.specs.declared.Refusal.{Refusal}
use Rattle.refusals.specs.Refusals.{refuse}
use Rattle.sections.specs.Sections.{Row, values}
use Rattle.catalogue.specs.declared.Places.{Places}
use Rattle.catalogue.specs.Reading.{found_in}
use Rattle.catalogue.specs.Asking.{asked}
use Rattle.catalogue.proofs.Asking.{asked-none, asked-nothing, asked-there}

-- what came of looking for the places
module _ (xs : List ℕ) {a : Result Places Refusal} (o : a ≡ ok_or (found_in xs) (record { 0 = 31 })) where
  pub was-found : {p : Places} → a ≡ Ok p → found_in xs ≡ Some p
  was-found q = grind arith

  pub was-none : {x : Refusal} → a ≡ Err x → (found_in xs ≡ None) × (x ≡ record { 0 = 31 })
  was-none q = (grind arith, grind arith)

  -- a question for entry n of some rows: refused, or the entry, if it is there
  module _ {E : Type 0} (there : Row → E) (rows : List Row) (n : ℕ) where
    pub refused : {x : Refusal} → a ≡ Err x → Err x ≡ asked (refuse 31) (Ok None) (λ r. Ok (Some (there r))) xs rows n
    refused q = rw (was-none q).1 (asked-none (refuse 31) (Ok None) (λ r. Ok (Some (there r))) xs rows n refl (was-none q).0)

    -- g is the test of n
    pub answered : {p : Places} → a ≡ Ok p → (r : Option E) {g : Bool} {row : Row} → is_some r ≡ g → (g ≡ true → n < length rows)
        → (g ≡ false → length rows ≤ n) → IfSome r (λ x. x ≡ there row) → (n < length rows → get_or rows n [] ≡ row)
        → Ok r ≡ asked (refuse 31) (Ok None) (λ r. Ok (Some (there r))) xs rows n
    answered q None e y f s t = asked-nothing (refuse 31) (Ok None) (λ r. Ok (Some (there r))) xs rows n refl (was-found q) (f (sym e))
    answered q (Some x) e y f s t =
        asked-there (refuse 31) (Ok None) (λ r. Ok (Some (there r))) xs rows n refl (was-found q) (y (sym e)) (ap (λ (y : E). Ok (Some y)) s) (t (y (sym e)))

-- an entry that was read, and where: the right one, if that is q
pub record WasRead {E : Type 0} (there : Row → E) (ws xs : List ℕ) (x : E) : Type 0 where
  pub place : ℕ
  pub is : x ≡ there (values ws xs place)

pub read-at : {E : Type 0} {there : Row → E} {ws xs : List ℕ} {x : E} (w : WasRead there ws xs x) {q : ℕ} → w.place ≡ q → x ≡ there (values ws xs q)
read-at {there = there} {ws = ws} {xs = xs} w h = w.is ∙ ap (λ (k : ℕ). there (values ws xs k)) h

-- what a test of two numbers says
pub ruleset told = (ltb-true, ltb-false, leb-true, leb-false)
