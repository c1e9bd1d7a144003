-- `vectors::answers::fit_answer` meets its contract. Assumes nothing.
use mathlib.Core.Path.{sym, ◌∙◌}
use Prim.Native.Nat.{◌<◌}
use native.Mathlib.Omega.{arith}
use lib.ListN.{length}
use borrow.Author.Rules.{rules}
use Rattle.octets.proofs.Numbers.{number_at-one}
use Rattle.vectors.specs.Answers.{fit_text}
use Rattle.vectors.proofs.Checks.{as_number}
use Rattle.vectors.proofs.answers.fit_answer.Goals as goal

pub returns-then-not-good_length : goal.returns-then-not-good_length
unfolding fit_text
returns-then-not-good_length c = (
  search rules,
  rw (← c.u64_at-bits.ensures, sym c.good_length.ensures ∙ c.if-not-good_length.true) c.word.ensures,
)

pub returns : goal.returns
unfolding fit_text
returns c = (
  search rules,
  let q = c.args.q.now in
      let some : 0 < length q = omega arith in
      rw (
        ← c.u64_at-bits.ensures,
        sym c.good_length.ensures ∙ c.if-not-good_length.false,
        ← c.u16_at-size.ensures,
        ← c.u16_at-accepted.ensures,
        number_at-one q 0 some,
        ← c.fits-right.ensures,
        ← as_number,
      ) c.with_number.ensures.1,
)
