-- `octets::number` meets its contract. The invariant: the number read so far is the one in the octets passed, and has eight bits for each.
-- Assumes nothing.
use mathlib.Core.Path.{ap, ◌∙◌}
use Prim.Native.Nat.{ℕ, ◌+◌, ◌-◌, ◌*◌, ◌^◌, ◌<◌}
use native.Mathlib.Omega.{arith}
use lib.ListN.{get_or}
use Rattle.octets.specs.Number.{part}
use Rattle.octets.proofs.Lists.{part_at}
use Rattle.octets.proofs.Numbers.{octets-part, grow, free, number-none, number_more}
use Rattle.octets.proofs.number.Goals as goal
use Rattle.octets.proofs.number.Goals.{In-loop-x}

-- in a turn
room : (c : In-loop-x) → c.loop-x.v < 2 ^ 56
room c = free _ c.loop-x.x-index (omega arith) c.loop-x.invariant.0

octet : (c : In-loop-x) → let a = c.args in get_or (part a.at (a.at + a.w - a.at) a.s.now) c.loop-x.x-index 0 < 256
octet c = octets-part c.args.s.now c.args.at _ (λ i. (c.type_inv.s i).fits) c.loop-x.x-index

pub loop-x-init : goal.loop-x-init
loop-x-init c = (omega arith, number-none _ _)

pub overflow_mul-v : goal.overflow_mul-v
overflow_mul-v c = omega (arith, room c)

pub overflow_add-v : goal.overflow_add-v
overflow_add-v c =
    let turn = (goal.at.overflow_add-v c).In-loop-x in
    omega (arith, room turn, octet turn)

pub loop-x-preserved : goal.loop-x-preserved
loop-x-preserved c =
    let a = c.args in
    let inv = c.loop-x.invariant in (
      grow _ _ _ inv.0 (octet (goal.at.loop-x-preserved c).In-loop-x),
      ap (λ (x : ℕ). c.loop-x.v * 256 + x) (part_at a.s.now a.at _ c.loop-x.x-index 0 (omega arith))
          ∙ number_more _ _ _ _ (omega arith) inv.1,
    )
