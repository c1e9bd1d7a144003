-- `chase::run` meets its contract. Assumes nothing.
use mathlib.Core.Path.{ap, ◌∙◌}
use native.Mathlib.Omega.{arith}
use Rattle.text.proofs.Following.{at_front}
use Rattle.lines.specs.Lines.{end_line}
use Rattle.script.specs.Follow.{Followed}
use Rattle.chase.specs.declared.Memory.{Memory}
use Rattle.chase.specs.Run.{last_line}
use Rattle.chase.proofs.run.Goals as goal

pub returns : goal.returns
unfolding last_line
returns c =
    let line = c.line.ensures in
    let here = at_front line.1 (omega (arith, line.0)) in
    (omega (arith, line.0), here ∙ ap (λ (o : Followed Memory). end_line o.commands o.unused) c.follow.ensures)
