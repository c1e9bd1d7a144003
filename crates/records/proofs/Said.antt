-- What the reader answers says what the paper gives: the same number, and the same values. Assumes nothing.
use Rattle.std.specs.Prelude.{option_map, Option, Some, None, Result, Ok}
use mathlib.Core.Path.{◌≡◌, refl, sym, ap, ◌∙◌}
use mathlib.Core.List.{List, [], ◌∷◌, map}
use Prim.Native.Nat.{ℕ, zero, suc, ◌≤◌, ◌<◌}
use native.Mathlib.Nat.{le_of_suc-le-suc}
use native.Mathlib.Omega.{arith}
use borrow.Author.Tests.{leb-true, leb-false, eqb-true}
use lib.Dec.{leb, eqb}
use lib.ListN.{length, get_or}
use lib.Seq.{length-take-le}
use Rattle.octets.specs.Number.{number_at}
use Rattle.octets.specs.Reasons.{decided}
use Rattle.octets.specs.Reasons.Reason.{◌when◌}
use Rattle.octets.proofs.Lists.{if-cases}
use Rattle.octets.proofs.Numbers.{number_at-part}
use Rattle.octets.proofs.Tests.{and_left}
use Rattle.octets.proofs.Reasons.{decided-cases, none-decided, first-decided, decided-append, decided-map}
use Rattle.refusals.specs.declared.Refusal.{Refusal}
use Rattle.refusals.specs.Refusals.{refuse}
use Rattle.records.specs.Table as table
use Rattle.records.specs.Table.{header_length, primary, image_structure, time_stamp, segment, fixed_types}
use Rattle.records.specs.Records.{field_of, header_of, record_at, records, header_says, nth, place_of}
use Rattle.records.specs.Reader.{primary_of, image_at, navigation_at, name_at, time_at, segment_at, if_there, image_of, navigation_of, time_of, segment_of, fields_of, read_header, read_record}
use Rattle.records.specs.Answers.{Row, Said, says, refused, primary_said, image_said, navigation_said, time_said, segment_said, header_said, found_said, record_said, row_of, value_of, header_gives, record_gives}
use Rattle.records.specs.Answers.Row.{there, absent}
use Rattle.records.specs.declared.Record.{Record}
use Rattle.records.specs.declared.Header.{Header}
use Rattle.records.proofs.Walk.{begin, found}
use Rattle.records.proofs.Finding.{place_here}
use Rattle.records.proofs.Passing.{Whole, accepts}

-- the primary record is the first of its type, at place 0
primary-first : (file : List ℕ) → Whole file → place_of 0 (records (header_of file)) ≡ Some 0
unfolding record_at
primary-first file w =
    let header = header_of file in
    let end = field_of file 0 header_length in
    let kind : number_at header 0 1 ≡ 0 =
    number_at-part file 0 end 0 1 (omega (arith, w.least))
    ∙ eqb-true (number_at file 0 1) 0 (and_left (eqb (number_at file 0 1) 0) (eqb (number_at file 1 2) 16) w.starts) in
    found (begin header (place_of 0)) refl (omega (arith, length-take-le end file w.within, w.least)) (Some 0)
    (λ rs. place_here (record_at header 0) rs 0 kind)

-- what is made of a record that is there, or of its absence
row : {A : Type 0} (f : Option A → Row) {g : ℕ → A} {h : ℕ → Row} → ((p : ℕ) → f (Some (g p)) ≡ h p) → f None ≡ absent
    → (s : Option ℕ) → f (option_map g s) ≡ if_there h absent s
row f here nowhere (Some p) = here p
row f here nowhere None = nowhere

-- each fixed type says its row of the table
module _ (xs : List ℕ) where
  primary-row : place_of 0 (records xs) ≡ Some 0 → primary_said (primary_of xs) ≡ row_of xs primary
  unfolding primary_of
  primary-row e = sym (ap (if_there (λ p. there (map (value_of xs p) primary.fields)) absent) e)

  image-row : image_said (image_of xs) ≡ row_of xs image_structure
  unfolding image_of image_at
  image-row = row image_said (λ p. refl) refl (place_of 1 (records xs))

  navigation-row : navigation_said (navigation_of xs) ≡ row_of xs table.navigation
  unfolding navigation_of navigation_at name_at
  navigation-row = row navigation_said (λ p. refl) refl (place_of 2 (records xs))

  time-row : time_said (time_of xs) ≡ row_of xs time_stamp
  unfolding time_of time_at
  time-row = row time_said (λ p. refl) refl (place_of 5 (records xs))

  segment-row : segment_said (segment_of xs) ≡ row_of xs segment
  unfolding segment_of segment_at
  segment-row = row segment_said (λ p. refl) refl (place_of 128 (records xs))

fields-said : (file : List ℕ) → Whole file → header_said (Ok (fields_of (header_of file))) ≡ says 0 (map (row_of (header_of file)) fixed_types)
unfolding header_said fields_of
fields-said file w =
    let xs = header_of file in
    λ i. says 0 (primary-row xs (primary-first file w) i ∷ image-row xs i ∷ navigation-row xs i ∷ time-row xs i ∷ segment-row xs i ∷ [])

pub header-said : (file : List ℕ) → header_said (read_header file) ≡ header_gives file
unfolding read_header header_gives header_said
header-said file =
    let given = says 0 (map (row_of (header_of file)) fixed_types) in
    decided-cases (λ (r : Result Header Refusal). header_said r ≡ decided (header_says fixed_types file) given refused) (header_says fixed_types file)
    (λ none. fields-said file (accepts fixed_types file none).head ∙ sym (none-decided given refused (header_says fixed_types file) none))
    (λ n first. sym (first-decided given refused first))

-- what a caller is promised of an answer: all of it, and what it says
pub header-told : (file : List ℕ) {r : Result Header Refusal} → r ≡ read_header file → (r ≡ read_header file) × (header_said r ≡ header_gives file)
header-told file e = (e, ap header_said e ∙ header-said file)

-- record n, or 27 where there are no more than n
nth-within : (rs : List Record) (n : ℕ) (other : Record) → n < length rs → record_said (nth rs n) ≡ says 0 (found_said (get_or rs n other) ∷ [])
unfolding nth record_said
nth-within [] n other h = absurd (omega arith)
nth-within (r ∷ rs) zero other h = refl
nth-within (r ∷ rs) (suc n) other h = nth-within rs n other (le_of_suc-le-suc h)

nth_beyond : (rs : List Record) (n : ℕ) → length rs ≤ n → record_said (nth rs n) ≡ refused 27
unfolding nth record_said
nth_beyond [] n h = refl
nth_beyond (r ∷ rs) zero h = absurd (omega arith)
nth_beyond (r ∷ rs) (suc n) h = nth_beyond rs n (le_of_suc-le-suc h)

pub record-said : (file : List ℕ) (n : ℕ) → record_said (read_record file n) ≡ record_gives file n
unfolding read_record record_gives record_said
record-said file n =
    let rs = records (header_of file) in
    let other = record_at (header_of file) 0 in
    let given = says 0 (found_said (get_or rs n other) ∷ []) in
    let asked : record_said (nth rs n) ≡ decided ((27 when leb (length rs) n) ∷ []) given refused =
    if-cases (λ (x : Said). record_said (nth rs n) ≡ x) (leb (length rs) n)
    (λ e. nth_beyond rs n (leb-true (length rs) n e)) (λ e. nth-within rs n other (leb-false (length rs) n e)) in
    decided-map record_said (header_says fixed_types file) (nth rs n) refuse
    ∙ ap (λ (x : Said). decided (header_says fixed_types file) x refused) asked
    ∙ sym (decided-append given refused (header_says fixed_types file) ((27 when leb (length rs) n) ∷ []))

pub record-told : (file : List ℕ) (n : ℕ) {r : Result Record Refusal} → r ≡ read_record file n
    → (r ≡ read_record file n) × (record_said r ≡ record_gives file n)
record-told file n e = (e, ap record_said e ∙ record-said file n)
