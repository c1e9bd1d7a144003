-- `text::decimal` meets its contract: a number of 64 bits has at most 20 digits. Assumes nothing.
use Prim.Native.Nat.{◌^◌, ◌<◌}
use native.Mathlib.Omega.{arith}
use Rattle.text.proofs.Places.{at_most}
use Rattle.text.proofs.Decimals.{decimal-digits}
use Rattle.text.proofs.decimal.Goals as goal

pub word-requires : goal.word-requires
word-requires c =
    let d = c.decimal-k in
    let v = c.args.v in
    omega (arith, at_most 10 1 20 v d.result (omega arith) (omega arith) (omega arith) d.ensures.len, d.ensures.in_bounds)

pub returns : goal.returns
returns c =
    let d = c.decimal-k in
    let v = c.args.v in
    let w = c.word.ensures in
    let fits : v < 10 ^ 20 = omega arith in (
      omega (arith, at_most 10 1 20 v d.result (omega arith) (omega arith) fits d.ensures.len, d.ensures.in_bounds, w.ends),
      rw (d.ensures.digits, decimal-digits d.result v fits d.ensures.len) at w,
    )
