-- `crc::by_bits` meets its contract. The loop's invariant: what is wanted is what the octets that are left make of the register.
-- Assumes nothing.
use mathlib.Core.Path.{◌≡◌, ◌∙◌, ap}
use mathlib.Core.List.{List}
use Prim.Native.Nat.{ℕ, ◌+◌, ◌<◌}
use native.Mathlib.Numerals.{add-one}
use native.Mathlib.Omega.{arith}
use lib.ListN.{length, get_or, drop}
use lib.Seq.{drop-cons}
use Rattle.crc.specs.Crc.{octet, crc_from}
use Rattle.crc.proofs.Laws.{none_left}
use Rattle.crc.proofs.by_bits.Goals as goal

one_more : (xs : List ℕ) (c s i t : ℕ) → i < length xs → t ≡ crc_from c (drop i xs) → s ≡ octet c (get_or xs i 0) → t ≡ crc_from s (drop (i + 1) xs)
unfolding crc_from
one_more xs c s i t h e f = rw (add-one, f) (e ∙ ap (crc_from c) (drop-cons xs i 0 h))

pub loop-x-preserved : goal.loop-x-preserved
loop-x-preserved c = one_more _ _ _ _ _ c.loop-x-test.true c.loop-x.invariant c.octet-c.ensures

pub returns : goal.returns
returns c = none_left c.args.octets.now _ c.loop-x.x-index _ (omega arith) c.loop-x.invariant
