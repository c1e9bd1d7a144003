-- `clerk::calls::noted` meets its contract: a refusal leaves the number of octets as it was. Assumes nothing.
use Rattle.std.specs.Prelude.{Result, Ok, Err}
use Rattle.std.specs.Result.{result_unwrap_or}
use mathlib.Core.Path.{◌≡◌, refl, ◌∙◌}
use Prim.Native.Nat.{ℕ}
use Rattle.refusals.specs.declared.Refusal.{Refusal}
use Rattle.clerk.specs.Calls.{used_after}
use Rattle.clerk.proofs.calls.noted.Goals as goal

left : (a : Result ℕ Refusal) (used : ℕ) → result_unwrap_or a used ≡ used_after a used
left (Ok n) used = refl
left (Err n) used = refl

pub returns-clause-lent_value : goal.returns-clause-lent_value
returns-clause-lent_value c = (refl, c.unwrap_or.ensures ∙ left c.args.a c.args.h.used)
