-- `noise::mix` meets its contract. The loop's invariant: what is wanted is what the periods that are left make of the buffer.
-- Assumes nothing.
use mathlib.Core.Path.{◌≡◌, sym}
use Prim.Native.Nat.{◌+◌, ◌*◌}
use native.Mathlib.Omega.{arith}
use lib.ListN.{length-take}
use lib.Seq.{length-take-le, take_all}
use Rattle.noise.proofs.Mixing.{frame-none, frame-more, frame-all}
use Rattle.noise.proofs.mix.Goals as goal

-- a frame's octets are there
pub slice_bounds-octets-end : goal.slice_bounds-octets-end
slice_bounds-octets-end c = sym (length-take-le _ _ (omega arith))

pub mix_period-requires : goal.mix_period-requires
mix_period-requires c = simp length-take (omega arith, omega arith, omega arith)

pub loop-k-init : goal.loop-k-init
loop-k-init c = frame-none _ _ (omega arith)

pub loop-k-preserved : goal.loop-k-preserved
loop-k-preserved c =
    let k = c.loop-k.k in
    let next : (k + 1) * 255 ≡ k * 255 + 255 = omega arith in
    let called = rw (take_all 1020 c.args.from.now (omega arith)) at c.mix_period.ensures in
    rw next (frame-more _ _ _ (k * 255) (omega arith) (omega arith) c.loop-k.invariant c.table-table.ensures called)

pub returns : goal.returns
returns c = frame-all _ _ (c.loop-k.k * 255) (omega arith) c.loop-k.invariant
