-- `carry::begin` finds how a frame begins, by its four cases. Assumes nothing.
use mathlib.Core.Path.{refl, sym, ◌∙◌}
use native.Mathlib.Omega.{arith}
use Rattle.carry.specs.Contract.Afresh.{by-gap, by-none, by-drop}
use Rattle.carry.proofs.begin.Goals as goal

pub returns-then-is_gap : goal.returns-then-is_gap
returns-then-is_gap c =
    let told = c.emit-n.ensures in
    (omega (arith, c.start_at-from.ensures), by-gap (sym c.is_gap.ensures ∙ c.if-is_gap.true) refl told.value told.list_after)

pub returns-then-d-eq0 : goal.returns-then-d-eq0
returns-then-d-eq0 c =
    (omega (arith, c.start_at-from.ensures), by-none (sym c.is_gap.ensures ∙ c.if-is_gap.false) c.if-d-eq0.true refl refl refl)

pub join-requires : goal.join-requires
join-requires c = c.requires.joining (omega arith)

pub returns-in-Dropped : goal.returns-in-Dropped
returns-in-Dropped c =
    let told = c.emit-n-in-Dropped.ensures in (
      omega (arith, c.start_at-from.ensures),
      by-drop (sym c.is_gap.ensures ∙ c.if-is_gap.false) (omega arith) c.join.ensures.desks_after
          (sym c.join.ensures.value ∙ c.in-Dropped.is) told.value told.list_after,
    )

pub returns-in-CarriedOn : goal.returns-in-CarriedOn
returns-in-CarriedOn c =
    record {
      seamless = sym c.is_gap.ensures ∙ c.if-is_gap.false;
      some = omega arith;
      wrote = c.join.ensures.desks_after;
      sequel = sym c.join.ensures.value ∙ c.in-CarriedOn.is;
      none = refl;
    }
