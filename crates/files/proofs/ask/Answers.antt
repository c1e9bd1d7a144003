-- `ask` meets its contract, test after test. Assumes nothing.
use mathlib.Core.Path.{◌≡◌, sym, ◌∙◌}
use mathlib.Core.Bool.{true}
use native.Mathlib.Omega.{arith}
use Rattle.state.specs.Decision.{is_sound}
use Rattle.station.proofs.Asking.{asked-unsound, asked-high, asked-free, asked-complete, asked-incomplete}
use Rattle.files.proofs.ask.Goals as goal
use Rattle.files.proofs.ask.Goals.{Else-not-is_sound}

-- where the first test was passed
sound : (e : Else-not-is_sound) → is_sound e.args.s ≡ true
sound e = sym e.is_sound.ensures ∙ e.if-not-is_sound.false

pub returns-then-not-is_sound : goal.returns-then-not-is_sound
returns-then-not-is_sound c = asked-unsound _ _ (sym c.is_sound.ensures ∙ c.if-not-is_sound.true)

pub returns-then-k-ge-SLOTS : goal.returns-then-k-ge-SLOTS
returns-then-k-ge-SLOTS c = asked-high _ _ (sound (goal.at.returns-then-k-ge-SLOTS c).Else-not-is_sound) (omega arith)

pub returns-then-not-is_held : goal.returns-then-not-is_held
returns-then-not-is_held c =
    asked-free _ _ (sound (goal.at.returns-then-not-is_held c).Else-not-is_sound) (omega arith) (sym c.is_held.ensures ∙ c.if-not-is_held.true)

pub returns-then-is_complete : goal.returns-then-is_complete
returns-then-is_complete c =
    asked-complete _ _ (sound (goal.at.returns-then-is_complete c).Else-not-is_sound) (omega arith) (sym c.is_held.ensures ∙ c.if-not-is_held.false)
    (sym c.is_complete.ensures ∙ c.if-is_complete.true)

pub returns-else-is_complete : goal.returns-else-is_complete
returns-else-is_complete c =
    asked-incomplete _ _ (sound (goal.at.returns-else-is_complete c).Else-not-is_sound) (omega arith) (sym c.is_held.ensures ∙ c.if-not-is_held.false)
    (sym c.is_complete.ensures ∙ c.if-is_complete.false)
