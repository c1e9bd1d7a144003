-- `text::hex` meets its contract: a number that fits its width has just so many digits. Assumes nothing.
use mathlib.Core.Path.{◌≡◌}
use native.Mathlib.Omega.{arith}
use Rattle.text.proofs.Places.{exactly}
use Rattle.text.proofs.hex.Goals as goal

pub word-requires : goal.word-requires
word-requires c =
    let h = c.hex-k in
    let a = c.args in
    omega (arith, exactly a.width a.v h.result (omega arith) (omega arith) (omega arith) h.ensures.len, h.ensures.in_bounds)

pub returns : goal.returns
returns c =
    let h = c.hex-k in
    let a = c.args in
    let w = c.word.ensures in
    let k : h.result ≡ a.width = exactly a.width a.v h.result (omega arith) (omega arith) (omega arith) h.ensures.len in
    (omega (arith, h.ensures.in_bounds, w.ends), rw (h.ensures.digits, k) at w)
