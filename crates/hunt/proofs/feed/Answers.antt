-- `hunt::feed` meets its contract. The invariant: the frames found, with what the rest of the portion is still to give, are what the portion gives.
-- The measure is that rest, of which a call that found a frame took some. Assumes nothing.
use mathlib.Core.Path.{refl, sym, ◌∙◌, ap}
use Prim.Native.Nat.{◌+◌, ◌≤◌, ◌<◌}
use native.Mathlib.Omega.{arith}
use borrow.Author.Rules.{rules}
use borrow.Author.Tests.{not-true, not-false}
use lib.ListN.{length}
use Rattle.stream.specs.Feed.{Fed}
use Rattle.hunt.proofs.Portions.{goes, goes_on, moves, ends}
use Rattle.hunt.proofs.feed.Goals as goal
use Rattle.hunt.proofs.feed.Goals.{After-write_all}

-- a frame was found, so that some of the rest was taken
moved : (c : After-write_all) → (0 < c.hunt-r.result.taken) × (c.loop-output.at + c.hunt-r.result.taken ≤ length c.args.portion.now)
moved c = moves c.loop-output.invariant.0 c.hunt-r.result _ c.hunt-r.ensures c.loop-output.invariant.2 (not-false _ c.if-not-r.false)

pub loop-output-init : goal.loop-output-init
loop-output-init c = (goes _ _ _, refl, search rules)

pub returns-then-not-r : goal.returns-then-not-r
returns-then-not-r c =
    let g = c.loop-output.invariant.0 in
    let fed = ends g c.hunt-r.result _ c.hunt-r.ensures (not-true _ c.if-not-r.true) in
    record {
      hunter_value = ap (λ (o : Fed). o.hunter) (sym fed);
      frames_value = g.counted ∙ ap (λ (o : Fed). length o.frames) (sym fed);
      unit_after = ap (λ (o : Fed). o.buffer) (sym fed);
    }

pub overflow_add-at : goal.overflow_add-at
overflow_add-at c = omega (arith, moved (goal.at.overflow_add-at c).After-write_all)

pub overflow_add-frames : goal.overflow_add-frames
overflow_add-frames c = omega (arith, moved (goal.at.overflow_add-frames c).After-write_all)

pub loop-output-smaller : goal.loop-output-smaller
loop-output-smaller c = omega (arith, moved (goal.at.loop-output-smaller c).After-write_all)

pub loop-output-preserved : goal.loop-output-preserved
loop-output-preserved c =
    let more = moved (goal.at.loop-output-preserved c).After-write_all in (
      goes_on c.loop-output.invariant.0 c.hunt-r.result _ c.hunt-r.ensures c.loop-output.invariant.2 (not-false _ c.if-not-r.false) _ (omega arith),
      search rules,
      search rules,
    )
