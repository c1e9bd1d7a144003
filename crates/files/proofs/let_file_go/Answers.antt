-- `let_file_go` meets its contract: each case of what `ask` tells is a clause of the definition. Assumes nothing.
use Rattle.std.specs.Prelude.{Result, Ok}
use mathlib.Core.Path.{◌≡◌, refl, ap, ◌∙◌}
use Prim.Native.Nat.{ℕ}
use Rattle.refusals.specs.declared.Refusal.{Refusal}
use Rattle.state.specs.declared.Station.{Station}
use Rattle.station.specs.declared.LetGo.{LetGo}
use Rattle.station.specs.declared.Held.{Held}
use Rattle.station.specs.Files.{asked, let_go_as, file_let_go}
use Rattle.station.proofs.Asking.{told-complete, told-incomplete}
use Rattle.files.proofs.let_file_go.Goals as goal

as-told : (s : Station) (k : ℕ) {a b : Result Held Refusal} {r : LetGo} → a ≡ asked s k → a ≡ b → r ≡ let_go_as s b → r ≡ file_let_go s k
unfolding file_let_go
as-told s k asks e f = rw (f, ← asks, e)

pub free-requires : goal.free-requires
free-requires c =
    let known = (told-complete _ _ c.ask.ensures (c.in-Ok-Complete.is ∙ ap Ok c.in-Ok-Complete.field-0-is)).0 in
    (known.low, known.store)

pub free-requires-in-Ok-Incomplete : goal.free-requires-in-Ok-Incomplete
free-requires-in-Ok-Incomplete c =
    let known = told-incomplete _ _ c.ask.ensures (c.in-Ok-Incomplete.is ∙ ap Ok c.in-Ok-Incomplete.field-0-is) in
    (known.low, known.store)

pub returns-in-Err : goal.returns-in-Err
unfolding let_go_as
returns-in-Err c = as-told _ _ c.ask.ensures c.in-Err.is refl

pub returns-in-Ok-Complete : goal.returns-in-Ok-Complete
unfolding let_go_as
returns-in-Ok-Complete c = as-told _ _ c.ask.ensures (c.in-Ok-Complete.is ∙ ap Ok c.in-Ok-Complete.field-0-is) c.free.ensures

pub returns-in-Ok-Incomplete : goal.returns-in-Ok-Incomplete
unfolding let_go_as
returns-in-Ok-Incomplete c = as-told _ _ c.ask.ensures (c.in-Ok-Incomplete.is ∙ ap Ok c.in-Ok-Incomplete.field-0-is) c.free-in-Ok-Incomplete.ensures
