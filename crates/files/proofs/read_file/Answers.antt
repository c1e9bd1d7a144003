-- `read_file` meets its contract: the answer follows what is asked first. Assumes nothing.
use Rattle.std.specs.Prelude.{Result, ⊤}
use mathlib.Core.Path.{ap, ◌∙◌}
use Rattle.refusals.specs.declared.Refusal.{Refusal}
use Rattle.refusals.specs.Refusals.{answer_of}
use Rattle.refusals.proofs.Passing.{passed_on}
use Rattle.station.specs.Files.{read_gives}
use Rattle.files.proofs.Reading.{ready, read-follows}
use Rattle.files.proofs.read_file.Goals as goal

pub fill-requires : goal.fill-requires
fill-requires c =
    let (fits, sound, low, whole) = ready _ _ _ c.ask_complete.ensures c.in_ok-k.was in
    record { fits_and_sound = (fits, sound); k_complete = (low, whole) }

pub returns-in_err-k : goal.returns-in_err-k
returns-in_err-k c =
    let a = c.args in
    let as-it-came = passed_on _ c.from_residual.ensures.1 in
    record {
      numbered = rw as-it-came (ready a.s a.store.now a.slot c.ask_complete.ensures c.in_err-k.was);
      outcome =
          ap (λ (r : Result ⊤ Refusal). read_gives (answer_of r) a.buffer.now) as-it-came
          ∙ read-follows _ _ _ c.ask_complete.ensures c.in_err-k.was _ _;
    }

pub returns : goal.returns
returns c =
    let filled = c.fill.ensures in
    record { numbered = filled.numbered; outcome = filled.outcome ∙ read-follows _ _ _ c.ask_complete.ensures c.in_ok-k.was _ _ }
