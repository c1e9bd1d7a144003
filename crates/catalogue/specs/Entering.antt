-- One file more. Assumes nothing.
use Rattle.std.specs.Prelude.{Bool, not, ◌&&◌, List, [], ◌∷◌, ◌++◌, ℕ, leb, ltb, eqb, length, take, Option, Some, None, Result, Ok}
use Rattle.octets.specs.Buffer.{put}
use Rattle.octets.specs.Reasons.{Reason, decided}
use Rattle.octets.specs.Reasons.Reason.{◌when◌}
use Rattle.refusals.specs.declared.Refusal.{Refusal}
use Rattle.refusals.specs.Refusals.{refuse}
use Rattle.records.specs.declared.Image.{Image}
use Rattle.records.specs.declared.Segment.{Segment}
use Rattle.records.specs.Table.{fixed_types}
use Rattle.records.specs.Records.{header_of, header_says}
use Rattle.records.specs.Reader.{primary_of, image_of, segment_of}
use Rattle.facts.specs.declared.Facts.{Facts}
use Rattle.catalogue.specs.declared.Entry.{Entry}
use Rattle.catalogue.specs.declared.Picture.{Picture}
use Rattle.catalogue.specs.Catalogue.{file_row, good_file, accepts, files_of, listed, written}

-- "one for each file with an image structure record"; "segment number 1, total 1 (zeros without a segment record)"
abbrev pub image_facts : Option Image → Option Segment → Option Picture
image_facts None s = None
image_facts (Some i) None = Some (record { columns = i.columns; lines = i.lines; number = 0; total = 0 })
image_facts (Some i) (Some s) = Some (record { columns = i.columns; lines = i.lines; number = s.number; total = s.total })

-- the entry of a file: its facts as handed in, and what its header says
unfoldable pub entry_for : Facts → List ℕ → Entry
entry_for f file =
    record {
      facts = f;
      kind = (primary_of (header_of file)).filetype;
      image = image_facts (image_of (header_of file)) (segment_of (header_of file));
    }

-- the catalogue with one entry more at its end
unfoldable pub entered : List ℕ → Entry → List ℕ
entered xs e = written (listed xs ++ (e ∷ []))

-- what was handed in is a catalogue
abbrev pub held : List ℕ → ℕ → Bool
held b used = leb used (length b) && accepts (take used b)

-- "At most 1,024 files, then refusal 30"; "otherwise refusal 31", of what was handed in as a catalogue, and of facts that no catalogue has; "a
-- lent buffer too short for it gives 34"
abbrev pub entry_says : List ℕ → ℕ → Entry → List Reason
entry_says b used e =
    (30 when (held b used && eqb (length (files_of (take used b))) 1024))
    ∷ (31 when not (held b used && good_file (file_row e)))
    ∷ (34 when ltb (length b) (length (entered (take used b) e)))
    ∷ []

-- "A file whose header is refused is not entered and its number is returned": 20 to 26, which are lower than the others
abbrev pub enter_says : List ℕ → ℕ → Facts → List ℕ → List Reason
enter_says b used f file = header_says fixed_types file ++ entry_says b used (entry_for f file)

-- everything that comes out of a call that writes: its answer, and what is in the buffer
pub record Outcome : Type 0 where
  pub answer : Result ℕ Refusal
  pub buffer : List ℕ

abbrev pub gives : Result ℕ Refusal → List ℕ → Outcome
gives a b = record { answer = a; buffer = b }

-- octets written at the front of a buffer, and what is behind them as it was; or a refusal, and the buffer "stays unchanged"
abbrev pub written_in : List Reason → List ℕ → List ℕ → Outcome
written_in reasons b xs = decided reasons (gives (Ok (length xs)) (put b 0 xs)) (λ (n : ℕ). gives (refuse n) b)

unfoldable pub entry_entered : List ℕ → ℕ → Entry → Outcome
entry_entered b used e = written_in (entry_says b used e) b (entered (take used b) e)

unfoldable pub file_entered : List ℕ → ℕ → Facts → List ℕ → Outcome
file_entered b used f file = written_in (enter_says b used f file) b (entered (take used b) (entry_for f file))

-- an empty catalogue
unfoldable pub begun : List ℕ → Outcome
begun b = written_in ((34 when ltb (length b) (length (written []))) ∷ []) b (written [])
