-- `vectors::digits::decode` meets its contract. The invariant: the octets so far stand in front of those of the digits that are left. Assumes nothing.
use mathlib.Core.Path.{refl, sym}
use native.Mathlib.Omega.{arith}
use lib.ListN.{length-set}
use Rattle.vectors.proofs.Decoding.{odd-none, begin, end, high-none, low-none, more}
use Rattle.vectors.proofs.digits.decode.Goals as goal

pub returns-then-digits-ne0 : goal.returns-then-digits-ne0
returns-then-digits-ne0 c = record {
  result_bound = omega arith;
  asked_after = sym (odd-none c.args.digits.now (omega arith));
}

pub loop-i-init : goal.loop-i-init
loop-i-init c = (refl, begin _ _)

pub returns-then-high-gt15 : goal.returns-then-high-gt15
returns-then-high-gt15 c =
    let inv = c.loop-i.invariant in
    record {
      result_bound = omega arith;
      asked_after = high-none inv.1 (omega arith) (omega arith);
    }

pub returns-then-low-gt15 : goal.returns-then-low-gt15
returns-then-low-gt15 c =
    let inv = c.loop-i.invariant in
    record {
      result_bound = omega arith;
      asked_after = low-none inv.1 (omega arith) (omega arith) (omega arith);
    }

pub loop-i-preserved : goal.loop-i-preserved
loop-i-preserved c =
    let inv = c.loop-i.invariant in
    (simp length-set inv.0, more inv.1 (omega arith) _ (omega arith) (omega arith) (omega arith) (omega arith))

pub returns : goal.returns
returns c =
    let inv = c.loop-i.invariant in
    record {
      result_bound = omega arith;
      asked_after = end inv.1 _ (omega arith) (omega arith);
    }
