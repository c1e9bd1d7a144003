-- `vectors::gather` meets its contract: an octet stored past the end changes nothing. Assumes nothing.
use mathlib.Core.Path.{refl, sym}
use native.Mathlib.Omega.{arith}
use borrow.Author.Tests.{lt-ltb, le-ltb}
use lib.Seq.{set_out}
use Rattle.vectors.proofs.gather.Goals as goal

pub returns-then-held-lt-QUESTION : goal.returns-then-held-lt-QUESTION
returns-then-held-lt-QUESTION c = record {
  value = sym (rw (lt-ltb _ _ c.if-held-lt-QUESTION.true));
  line_after = refl;
}

pub returns : goal.returns
returns c = record {
  value = sym (rw (le-ltb _ _ c.if-held-lt-QUESTION.false));
  line_after = sym (set_out _ _ _ (omega arith));
}
