-- `script::whole::follow` meets its contract. Assumes nothing.
use mathlib.Core.Path.{refl, sym, ◌∙◌}
use native.Mathlib.Omega.{arith}
use borrow.Author.Rules.{rules}
use Rattle.script.proofs.Following.{following-none, following-ends, following-all, following-there, following-said, following-more, text-ends, text-all, text-more}
use Rattle.script.proofs.whole.follow.Goals as goal

pub loop-at-init : goal.loop-at-init
loop-at-init g c = (following-none _ _ _ _, c.requires.0, search rules, following-none _ _ _ _)

pub returns-in_default : goal.returns-in_default
returns-in_default g c =
    let none = sym c.fetch.ensures ∙ c.in_default.is in
    record { memory_after = following-ends c.loop-at.invariant.0 refl none; text_after = text-ends _ _ c.loop-at.invariant.3 none }

pub overflow_add-to : goal.overflow_add-to
overflow_add-to g c = omega (arith, following-there c.loop-at.invariant.0 (sym c.fetch.ensures ∙ c.in-Some.is))

pub slice_bounds-obey-end : goal.slice_bounds-obey-end
slice_bounds-obey-end g c = omega (arith, following-there c.loop-at.invariant.0 (sym c.fetch.ensures ∙ c.in-Some.is))

pub obey-requires : goal.obey-requires
obey-requires g c = (c.loop-at.invariant.1, search rules, following-said c.loop-at.invariant.0 (sym c.fetch.ensures ∙ c.in-Some.is))

pub loop-at-preserved : goal.loop-at-preserved
loop-at-preserved g c =
    let next = sym c.fetch.ensures ∙ c.in-Some.is in
    let done = c.obey.ensures in (
      following-more c.loop-at.invariant.0 next done.memory_after,
      done.fits,
      search rules,
      text-more _ _ c.loop-at.invariant.3 next done.memory_after done.text_after,
    )

pub returns : goal.returns
returns g c =
    record {
      memory_after = following-all c.loop-at.invariant.0 (omega arith);
      text_after = text-all _ _ c.loop-at.invariant.3 (omega arith);
    }
