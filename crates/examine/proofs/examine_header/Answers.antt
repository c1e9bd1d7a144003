-- `examine_header` meets its contract: the tests stand in the order of the refusals' numbers. Assumes nothing.
use mathlib.Core.Path.{refl, sym, ◌∙◌}
use Rattle.refusals.proofs.Passing.{absent, present}
use Rattle.frame.proofs.Answers.{other-version, other-spacecraft, fill, not-watched, pointer-refused, accepted}
use Rattle.examine.proofs.examine_header.Goals as goal

pub returns-then-h-ne-VERSION : goal.returns-then-h-ne-VERSION
returns-then-h-ne-VERSION c = sym (other-version _ _ _ c.if-h-ne-VERSION.true)

pub returns-then-h-spacecraft : goal.returns-then-h-spacecraft
returns-then-h-spacecraft c = sym (other-spacecraft _ _ _ c.if-h-ne-VERSION.false c.if-h-spacecraft.true)

pub returns-then-h-eq-FILL : goal.returns-then-h-eq-FILL
returns-then-h-eq-FILL c =
    sym (fill _ _ _ c.if-h-ne-VERSION.false c.if-h-spacecraft.false c.if-h-eq-FILL.true)

pub returns-in_err-desk : goal.returns-in_err-desk
returns-in_err-desk c =
    let told = absent _ _ c.ok_or.ensures.value c.in_err-desk.was c.from_residual.ensures.1 in
    told.1
    ∙ sym
    (not-watched _ _ _ c.if-h-ne-VERSION.false c.if-h-spacecraft.false c.if-h-eq-FILL.false (sym c.desk_of.ensures ∙ told.0))

pub returns-in-Refused : goal.returns-in-Refused
returns-in-Refused c =
    sym
    (pointer-refused _ _ _ c.if-h-ne-VERSION.false c.if-h-spacecraft.false c.if-h-eq-FILL.false _
    (sym c.desk_of.ensures ∙ present c.ok_or.ensures.ok_part c.in_ok-desk.was)
    (sym c.meaning-pointer.ensures ∙ c.in-Refused.is))

pub returns : goal.returns
returns c =
    sym
    (accepted _ _ _ _
    (record {
      version = c.if-h-ne-VERSION.false;
      spacecraft = c.if-h-spacecraft.false;
      no-fill = c.if-h-eq-FILL.false;
      desk = sym c.desk_of.ensures ∙ present c.ok_or.ensures.ok_part c.in_ok-desk.was;
      allowed = λ e. c.in_default.not-Refused (c.meaning-pointer.ensures ∙ e);
      counter = refl;
      pointer = c.meaning-pointer.ensures;
    }))
