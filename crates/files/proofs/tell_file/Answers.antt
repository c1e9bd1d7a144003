-- `tell_file` meets its contract: the answer follows what is asked first. Assumes nothing.
use Rattle.std.specs.Prelude.{Ok}
use mathlib.Core.Path.{ap, ◌∙◌}
use native.Mathlib.Omega.{arith}
use Rattle.refusals.proofs.Passing.{passed_on}
use Rattle.files.proofs.Reading.{ready, told-follows}
use Rattle.files.proofs.tell_file.Goals as goal

pub know-requires : goal.know-requires
know-requires c =
    let (fits, sound, low, whole) = ready _ _ _ c.ask_complete.ensures c.in_ok-k.was in
    record { fits_and_sound = (fits, sound); k_complete = (omega (arith, low), whole) }

pub returns-in_err-k : goal.returns-in_err-k
returns-in_err-k c = passed_on _ c.from_residual.ensures.1 ∙ told-follows _ _ _ c.ask_complete.ensures c.in_err-k.was

pub returns : goal.returns
returns c = ap Ok c.know.ensures ∙ told-follows _ _ _ c.ask_complete.ensures c.in_ok-k.was
