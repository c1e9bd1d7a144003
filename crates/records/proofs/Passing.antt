-- What is known of a header of which nothing is refused: each record is whole, of the right length and new, and the file is filled. Assumes nothing.
use Rattle.std.specs.Prelude.{Option, Some, Ok, Result, ⊤}
use mathlib.Core.Path.{◌≡◌, sym, ap, ◌∙◌}
use mathlib.Core.Bool.{true, false, ◌&&◌}
use mathlib.Core.List.{List, [], ◌∷◌}
use Prim.Native.Nat.{ℕ, ◌+◌, ◌≤◌}
use native.Mathlib.Omega.{arith}
use borrow.Author.Tests.{ltb-false, eqb-true, not-false}
use lib.Dec.{ltb, eqb}
use lib.ListN.{length}
use Rattle.octets.proofs.Lists.{if-cases}
use Rattle.octets.proofs.Reasons.{NoneApplies, none-append, decided-none}
use Rattle.refusals.specs.declared.Refusal.{Refusal}
use Rattle.refusals.specs.Refusals.{refuse}
use Rattle.records.specs.Table.{FixedType, header_length, data_bits, length_of}
use Rattle.records.specs.Records.{field_of, header_of, records, is_cut, wrong_length, is_fixed, record_says, seen_in, records_say, record_by_record, octets_for, size_says, starts_primary, header_says, place_of}
use Rattle.records.specs.Reader.{Fine, StandsWhole}
use Rattle.records.specs.declared.Record.{Record}
use Rattle.records.proofs.Cuts.{or-neither, uncut-within}

-- a refusal is told from what passes
pub never : (n : ℕ) → ◌≡◌ {A = Result ⊤ Refusal} (refuse n) (Ok tt) → ⊥
never n e = let z : ◌≡◌ {A = ℕ} 0 1 = cc in omega arith

-- a file that 20, 21 and 22 let through
pub record Whole (file : List ℕ) : Type 0 where
  pub long : 16 ≤ length file
  pub starts : starts_primary file ≡ true
  pub least : 16 ≤ field_of file 0 header_length
  pub within : field_of file 0 header_length ≤ length file

-- by whichever table of fixed types
module _ (types : List FixedType) where
  -- a record that passes, behind those before it
  pub record Passed (end : ℕ) (before : List Record) (r : Record) : Type 0 where
    pub whole : is_cut end r ≡ false
    pub right : wrong_length (length_of types r.kind) r.length ≡ false
    pub new : (is_fixed (length_of types r.kind) && seen_in before r.kind) ≡ false

  pub passes : {end : ℕ} (before : List Record) (r : Record) (rs : List Record) → NoneApplies (records_say types end before (r ∷ rs))
      → Passed end before r × NoneApplies (records_say types end (r ∷ before) rs)
  unfolding records_say
  passes {end} before r rs none =
      let (own, rest) = none-append (record_says types end (seen_in before r.kind) r) (records_say types end (r ∷ before) rs) none in
      (record { whole = own.0; right = own.1.0; new = own.1.1.0 }, rest)

  -- a record of a fixed type has its length, and ends within the header
  module _ {end : ℕ} {before : List Record} {r : Record} (p : Passed end before r) {n : ℕ} (fixed : length_of types r.kind ≡ Some n) where
    pub length-fixed : r.length ≡ n
    length-fixed = eqb-true r.length n (not-false (eqb r.length n) (rw fixed at p.right))

    pub ends-within : r.place + n ≤ end
    ends-within = omega (arith, (uncut-within end r p.whole).1, length-fixed)

    pub unseen : seen_in before r.kind ≡ false
    unseen = rw fixed at p.new

  -- where the first record of a fixed type stands, it stands whole
  module _ (kind : ℕ) {end n : ℕ} (fixed : length_of types kind ≡ Some n) where
    pub place-within : (before rs : List Record) → NoneApplies (records_say types end before rs) → (p : ℕ) → place_of kind rs ≡ Some p → p + n ≤ end
    unfolding place_of
    place-within before [] none p e =
        let z : ◌≡◌ {A = ℕ} 0 1 = cc in
        omega arith
    place-within before (r ∷ rs) none p e =
        let (first, rest) = passes before r rs none in
        if-cases (λ (s : Option ℕ). s ≡ Some p → p + n ≤ end) (eqb r.kind kind)
        (λ is here.
        let stands : r.place ≡ p = cc in
        omega (arith, ends-within first (ap (length_of types) (eqb-true r.kind kind is) ∙ fixed)))
        (λ isn't later. place-within (r ∷ before) rs rest p later)
        e

  pub stands-within : (kind : ℕ) {n : ℕ} {header : List ℕ} → length_of types kind ≡ Some n → Fine types header
      → (p : ℕ) → place_of kind (records header) ≡ Some p → p + n ≤ length header
  stands-within kind {header = header} fixed fine p e =
      place-within kind fixed [] (records header) (decided-none (record_by_record types header) never fine.good) p e

  -- so whoever found it may read all its fields
  pub found-whole : (kind n : ℕ) → length_of types kind ≡ Some n → (header : List ℕ) (s : Option ℕ) → Fine types header
      → s ≡ place_of kind (records header) → StandsWhole n header s
  found-whole kind n fixed header s fine found p e = stands-within kind fixed fine p (sym found ∙ e)

  -- a file of which nothing is refused
  pub record Accepts (file : List ℕ) : Type 0 where
    pub head : Whole file
    pub passed : NoneApplies (record_by_record types (header_of file))
    pub filled : length file ≡ field_of file 0 header_length + octets_for (field_of file 0 data_bits)

  pub accepts : (file : List ℕ) → NoneApplies (header_says types file) → Accepts file
  unfolding header_says
  accepts file none =
      let end = field_of file 0 header_length in
      let (low, beyond) = or-neither (ltb end 16) (ltb (length file) end) none.1.1.0 in
      let (each, size) =
      none-append (record_by_record types (header_of file))
      (size_says (length file) end (field_of file 0 data_bits))
      none.1.1.1
      in
      record {
        head =
            record {
              long = ltb-false (length file) 16 none.0;
              starts = not-false (starts_primary file) none.1.0;
              least = ltb-false end 16 low;
              within = ltb-false (length file) end beyond;
            };
        passed = each;
        filled =
            eqb-true (length file) (end + octets_for (field_of file 0 data_bits))
            (not-false (eqb (length file) (end + octets_for (field_of file 0 data_bits))) size.0);
      }
