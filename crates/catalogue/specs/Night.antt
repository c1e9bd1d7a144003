-- A night: files entered one after the other, refused ones among them. Assumes nothing.
use Rattle.std.specs.Prelude.{List, [], ◌∷◌, ◌++◌, ℕ, ◌^◌, ◌<◌, Result, Ok, Err}
use Rattle.octets.specs.Number.{Octets}
use Rattle.refusals.specs.declared.Refusal.{Refusal}
use Rattle.facts.specs.declared.Facts.{Facts}
use Rattle.catalogue.specs.declared.Entry.{Entry}
use Rattle.catalogue.specs.Entering.{Outcome, entry_for, file_entered, begun}

-- what a caller keeps: the buffer, and how many of its octets are the catalogue
pub record Kept : Type 0 where
  pub buffer : List ℕ
  pub used : ℕ

-- what is handed in for a file: its facts, and its octets
pub record Handed : Type 0 where
  pub facts : Facts
  pub file : List ℕ

-- after a call: the number that it gave, or the one that there was
abbrev pub kept_by : ℕ → List ℕ → Result ℕ Refusal → Kept
kept_by used b (Err n) = record { buffer = b; used = used }
kept_by used b (Ok n) = record { buffer = b; used = n }

abbrev pub outcome : Kept → Handed → Outcome
outcome k h = file_entered k.buffer k.used h.facts h.file

abbrev pub after : Kept → Handed → Kept
after k h = kept_by k.used (outcome k h).buffer (outcome k h).answer

-- "in order of completion": the order of the calls is the caller's
unfoldable pub night : Kept → List Handed → Kept
night k [] = k
night k (h ∷ hs) = night (after k h) hs

-- the files that were entered: those whose call was answered by 0
abbrev pub entered_by : Result ℕ Refusal → Entry → List Entry
entered_by (Err n) e = []
entered_by (Ok n) e = e ∷ []

unfoldable pub all_entered : Kept → List Handed → List Entry
all_entered k [] = []
all_entered k (h ∷ hs) = entered_by (outcome k h).answer (entry_for h.facts h.file) ++ all_entered (after k h) hs

-- the night's beginning: an empty catalogue
abbrev pub evening : List ℕ → Kept
evening b = kept_by 0 (begun b).buffer (begun b).answer

-- what a call can be handed: octets, and numbers that have room in their types
pub record Typed (h : Handed) : Type 0 where
  pub counter : h.facts.counter < 65536
  pub bits : h.facts.bits < 2 ^ 64
  pub octets : Octets h.file

pub data AllTyped : List Handed → Type 0 where
  none : AllTyped []
  one : {h : Handed} {hs : List Handed} → Typed h → AllTyped hs → AllTyped (h ∷ hs)
