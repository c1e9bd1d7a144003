-- `clerk::answers::channel_said` meets its contract where the channel is there. Assumes nothing.
use Rattle.std.specs.Prelude.{Option, Some, Result, Ok}
use mathlib.Core.Path.{◌≡◌, refl}
use native.Mathlib.Omega.{arith}
use Rattle.refusals.specs.declared.Refusal.{Refusal}
use Rattle.catalogue.specs.declared.ChannelEntry.{ChannelEntry}
use Rattle.catalogue.specs.Answers.{channel_said}
use Rattle.clerk.specs.declared.answers.Said.{Said}
use Rattle.clerk.specs.Printed.{Says}
use Rattle.clerk.proofs.answers.channel_said.Goals as goal

there : (s : Said) {a b : Result (Option ChannelEntry) Refusal} → a ≡ b → Says s (channel_said b) → Says s (channel_said a)
there s q t = rw q t

pub returns-in-Ok-Some : goal.returns-in-Ok-Some
returns-in-Ok-Some c =
    let here : c.args.a ≡ Ok (Some c.in-Ok-Some.e) = grind arith in
    there _ here (record { few = omega arith; gives = refl })
