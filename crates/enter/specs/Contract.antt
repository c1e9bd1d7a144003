-- What the functions of this crate hand to each other. Means, all of it. Assumes nothing.
use Rattle.std.specs.Prelude.{◌≡◌, true, List, ℕ, ◌≤◌, ◌<◌, length, take, Result, Ok, Err}
use Rattle.octets.proofs.Reasons.{First}
use Rattle.refusals.specs.declared.Refusal.{Refusal}
use Rattle.records.specs.declared.Header.{Header}
use Rattle.facts.specs.declared.Facts.{Facts}
use Rattle.catalogue.specs.declared.Entry.{Entry}
use Rattle.catalogue.specs.declared.Places.{Places}
use Rattle.catalogue.specs.Catalogue.{file_row, good_file, accepts}
use Rattle.catalogue.specs.Reading.{Lies}
use Rattle.catalogue.specs.Entering.{image_facts, entry_says}

-- the entry of a file whose header says h
abbrev pub entry_by : Facts → Header → Entry
entry_by f h = record { facts = f; kind = h.primary.filetype; image = image_facts h.image h.segment }

-- a catalogue of used octets stands at the front of a buffer, and its sections lie at these places
pub record Stands (b : List ℕ) (used : ℕ) (at : Places) : Type 0 where
  pub catalogue : accepts (take used b) ≡ true
  pub lies : Lies (take used b) at
  pub within : used ≤ length b

-- what is known behind what was settled
abbrev pub Settled : List ℕ → ℕ → Entry → Result Places Refusal → Type 0
Settled b used e (Err n) = First (entry_says b used e) n.0
Settled b used e (Ok at) = Stands b used at × (at.files < 1024) × (good_file (file_row e) ≡ true)
