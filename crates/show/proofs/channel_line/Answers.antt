-- `show::channel_line` meets its contract. Assumes nothing.
use Rattle.std.specs.Prelude.{if◌then◌else◌}
use mathlib.Core.Path.{◌≡◌, refl}
use mathlib.Core.Bool.{Bool, true, false}
use mir.Val.{bool_byte}
use borrow.Author.Rules.{rules}
use Rattle.text.proofs.Following.{behind}
use Rattle.show.proofs.channel_line.Goals as goal

-- the number of a truth value
one-or-none : (b : Bool) → bool_byte b ≡ (if b then 1 else 0)
one-or-none true = refl
one-or-none false = refl

pub returns : goal.returns
returns c =
    let third = behind c.word-letter.ensures c.numbers-third.ensures.1 in
    let line = behind (behind third c.number-last.ensures.1) c.line_end.ensures.1 in
    (search rules, rw (c.from-seen.ensures, one-or-none) at line)
