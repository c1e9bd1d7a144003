use mathlib.Core.Path.{refl}
use native.Mathlib.Omega.{arith}
use borrow.Author.Tests.{not-false}
use Rattle.octets.specs.Number.{number_at}
use Rattle.octets.proofs.Tests.{denied}
use Rattle.sections.proofs.Chain.{chaining, chain-bad, chain-room, chain_more, chain-end}
use Rattle.sections.proofs.is_sections.Goals as goal

pub loop-size-init : goal.loop-size-init
loop-size-init c = chaining _ _ _ (omega arith)

pub returns-then-not-fits : goal.returns-then-not-fits
returns-then-not-fits c = chain-bad c.loop-size.invariant (omega arith) (search denied)

pub u16_at-requires : goal.u16_at-requires
u16_at-requires c = omega (arith, chain-room c.loop-size.invariant (omega arith) c.fits.ensures (search not-false) (number_at c.args.s.now c.loop-size.p 2) refl)

pub overflow_mul-p : goal.overflow_mul-p
overflow_mul-p c = omega (arith, chain-room c.loop-size.invariant (omega arith) c.fits.ensures (search not-false) _ c.u16_at.ensures)

pub overflow_add-p : goal.overflow_add-p
overflow_add-p c = omega (arith, chain-room c.loop-size.invariant (omega arith) c.fits.ensures (search not-false) _ c.u16_at.ensures)

pub overflow_add-p-in-loop-size : goal.overflow_add-p-in-loop-size
overflow_add-p-in-loop-size c = omega (arith, chain-room c.loop-size.invariant (omega arith) c.fits.ensures (search not-false) _ c.u16_at.ensures)

pub loop-size-preserved : goal.loop-size-preserved
loop-size-preserved c = chain_more c.loop-size.invariant (omega arith) c.fits.ensures (search not-false) _ c.u16_at.ensures

pub returns : goal.returns
returns c = chain-end c.loop-size.invariant (omega arith)
