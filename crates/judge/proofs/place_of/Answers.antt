-- `judge::place_of` meets its contract: the events in the order of the paper, or the lowest free slot. Assumes nothing.
use mathlib.Core.Path.{sym, ◌∙◌}
use native.Mathlib.Omega.{arith}
use Rattle.judge.proofs.Rulings.{place-wrong, place-full, place_short, place_found}
use Rattle.judge.proofs.place_of.Goals as goal

pub returns-in_default : goal.returns-in_default
returns-in_default c = place-wrong _ _ (sym c.begin.ensures ∙ c.in_default.is)

pub returns-in_default-free_slot : goal.returns-in_default-free_slot
returns-in_default-free_slot c = place-full _ _ (sym c.begin.ensures ∙ c.in-Some.is) (sym c.free_slot.ensures ∙ c.in_default-free_slot.is)

pub returns-then-left-need : goal.returns-then-left-need
returns-then-left-need c =
    place_short _ _ (sym c.begin.ensures ∙ c.in-Some.is) (sym c.free_slot.ensures ∙ c.in-Some-free_slot.is) (omega arith)

pub returns : goal.returns
returns c =
    place_found _ _ (sym c.begin.ensures ∙ c.in-Some.is) (sym c.free_slot.ensures ∙ c.in-Some-free_slot.is) (omega arith)
