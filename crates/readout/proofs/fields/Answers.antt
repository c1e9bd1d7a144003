-- `readout::fields` meets its contract. Assumes nothing.
use borrow.Author.Rules.{rules}
use Rattle.text.proofs.Following.{behind}
use Rattle.readout.specs.Readout.{fields_text}
use Rattle.readout.proofs.fields.Goals as goal

pub returns : goal.returns
unfolding fields_text
returns c = (
  search rules,
  let first = behind c.with_number-begun.ensures.1 c.primary-first.ensures.1 in
      let second = behind first c.image-second.ensures.1 in
      let third = behind second c.navigation-third.ensures.1 in
      behind (behind third c.time-fourth.ensures.1) c.segment.ensures.1,
)
