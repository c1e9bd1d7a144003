-- `vectors::digits::question` meets its contract, by the three forms that a line can have behind its letter. Assumes nothing.
use mathlib.Core.Path.{◌∙◌}
use native.Mathlib.Omega.{arith}
use Rattle.vectors.proofs.Questions.{letter-alone, no-space, behind-space}
use Rattle.vectors.proofs.digits.question.Goals as goal

pub returns-then-line-eq1 : goal.returns-then-line-eq1
returns-then-line-eq1 c = record {
  result_bound = omega arith;
  asked_after = letter-alone _ c.if-line-eq1.true;
}

pub returns-then-line-ne32 : goal.returns-then-line-ne32
returns-then-line-ne32 c = record {
  result_bound = omega arith;
  asked_after = no-space _ (omega arith) c.if-line-ne32.true;
}

pub returns : goal.returns
returns c =
    let decoded = c.decode.ensures in
    record {
      result_bound = decoded.result_bound;
      asked_after = decoded.asked_after ∙ behind-space _ (omega arith) c.if-line-ne32.false;
    }
