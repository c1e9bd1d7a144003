-- `lines::event` meets its contract. Assumes nothing.
use borrow.Author.Rules.{rules}
use Rattle.text.proofs.Following.{behind}
use Rattle.lines.proofs.event.Goals as goal

pub returns : goal.returns
returns c =
    let line = behind c.with_three-end.ensures.1 c.line_end.ensures.1 in
    record {
      upper_bound = search rules;
      written = line;
    }
