-- `show::slot_line` meets its contract. Assumes nothing.
use native.Mathlib.Omega.{arith}
use Rattle.text.proofs.Following.{behind}
use Rattle.show.proofs.slot_line.Goals as goal

pub returns : goal.returns
returns c =
    let begun = c.word-letter.ensures in
    let third = c.numbers-third.ensures in
    let sixth = c.numbers-sixth.ensures in
    let blocks = c.block_numbers-last.ensures in
    let last = c.line_end.ensures in
    let pre = c.requires in
    (omega (arith, begun.ends, third.0, sixth.0, blocks.0, last.0), behind (behind (behind (behind begun third.1) sixth.1) blocks.1) last.1)
