use Prim.Native.Nat.{◌*◌, ◌≤◌}
use native.Mathlib.Omega.{arith}
use native.Mathlib.Nat.{mul-le-mul}
use Rattle.sections.proofs.Walks.{fits_not, fits-so}
use Rattle.sections.proofs.fits.Goals as goal

pub returns-then-left-lt2 : goal.returns-then-left-lt2
returns-then-left-lt2 c =
    let a = c.args in
    fits_not a.s.now a.at a.w (omega arith)

pub overflow_mul-result : goal.overflow_mul-result
overflow_mul-result c =
    let h : c.u16_at.result * c.args.w ≤ 65535 * 256 = mul-le-mul {n₂ = 65535} {m₂ = 256} (omega arith) (omega arith) in
    omega arith

pub overflow_add-result : goal.overflow_add-result
overflow_add-result c =
    let h : c.u16_at.result * c.args.w ≤ 65535 * 256 = mul-le-mul {n₂ = 65535} {m₂ = 256} (omega arith) (omega arith) in
    omega arith

pub returns : goal.returns
returns c = fits-so _ _ _ _ c.u16_at.ensures
