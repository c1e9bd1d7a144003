-- The answers in the paper's terms: its number, 0 if there is nothing to refuse, and the values that go with it, in the order of the stored form. No
-- entry has none. Assumes nothing.
use Rattle.std.specs.Prelude.{List, [], ◌∷◌, ℕ, Option, Some, None, Result, Ok, Err}
use Rattle.refusals.specs.declared.Refusal.{Refusal}
use Rattle.catalogue.specs.declared.ChannelEntry.{ChannelEntry}
use Rattle.catalogue.specs.declared.FileEntry.{FileEntry}
use Rattle.catalogue.specs.declared.ImageEntry.{ImageEntry}
use Rattle.catalogue.specs.declared.Sizes.{Sizes}

abbrev pub entered_said : Result ℕ Refusal → List ℕ
entered_said (Err n) = n.0 ∷ []
entered_said (Ok n) = 0 ∷ n ∷ []

abbrev pub read_said : Result Sizes Refusal → List ℕ
read_said (Err n) = n.0 ∷ []
read_said (Ok s) = 0 ∷ s.files ∷ s.images ∷ s.channels ∷ []

abbrev pub file_said : Result (Option FileEntry) Refusal → List ℕ
file_said (Err n) = n.0 ∷ []
file_said (Ok None) = 0 ∷ []
file_said (Ok (Some e)) = 0 ∷ e.facts.channel.0 ∷ e.facts.application.0 ∷ e.facts.counter ∷ e.facts.bits ∷ e.kind ∷ []

abbrev pub image_said : Result (Option ImageEntry) Refusal → List ℕ
image_said (Err n) = n.0 ∷ []
image_said (Ok None) = 0 ∷ []
image_said (Ok (Some e)) = 0 ∷ e.index ∷ e.picture.columns ∷ e.picture.lines ∷ e.picture.number ∷ e.picture.total ∷ []

abbrev pub channel_said : Result (Option ChannelEntry) Refusal → List ℕ
channel_said (Err n) = n.0 ∷ []
channel_said (Ok None) = 0 ∷ []
channel_said (Ok (Some e)) = 0 ∷ e.channel.0 ∷ e.files ∷ []
