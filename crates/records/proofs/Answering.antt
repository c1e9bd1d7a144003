-- What is decided of a file's header, refusal by refusal, and how every answer follows from it. Assumes nothing.
use Rattle.std.specs.Prelude.{Result, Ok, Err, ⊤}
use mathlib.Core.Path.{◌≡◌, sym, ap, ◌∙◌}
use mathlib.Core.Bool.{true, false, and-false, or-true}
use mathlib.Core.List.{List}
use Prim.Native.Nat.{ℕ, ◌-◌, ◌≤◌, ◌<◌}
use native.Mathlib.Omega.{arith}
use borrow.Author.Tests.{lt-ltb, le-ltb, eq-eqb, ne_eqb}
use lib.ListN.{length, take, drop, get_or}
use lib.Seq.{length-take-le}
use Rattle.octets.specs.Number.{number_at}
use Rattle.octets.specs.Reasons.{Reason, decided}
use Rattle.octets.proofs.Numbers.{number_at-one}
use Rattle.octets.proofs.Reasons.{none-decided, decided-none, decided-kept, decided-append, decided-map}
use Rattle.refusals.specs.declared.Refusal.{Refusal}
use Rattle.refusals.specs.Refusals.{refuse, verdict}
use Rattle.records.specs.Table.{FixedType, header_length, data_bits}
use Rattle.records.specs.Records.{field_of, header_of, record_by_record, size_says, starts_primary, header_says}
use Rattle.records.specs.Reader.{Fine}
use Rattle.records.proofs.Passing.{never, Whole, Accepts, accepts}

module _ (file : List ℕ) where
  pub starts_with : 16 ≤ length file → get_or file 0 0 ≡ 0 → number_at file 1 2 ≡ 16 → starts_primary file ≡ true
  starts_with h kind size = rw (number_at-one file 0 (omega arith), eq-eqb (get_or file 0 0) 0 kind, eq-eqb (number_at file 1 2) 16 size)

  -- what `&file[0..end]` is
  pub header-part : {n : ℕ} → n ≡ field_of file 0 header_length → take (n - 0) (drop 0 file) ≡ header_of file
  header-part {n} e =
      let all : n - 0 ≡ field_of file 0 header_length = omega arith in
      ap (λ (k : ℕ). take k file) all

-- an answer that is given by the same refusals, from the judgement
abbrev pub by_judged : {A : Type 0} → A → (ℕ → A) → Result ⊤ Refusal → A
by_judged d f (Ok tt) = d
by_judged d f (Err n) = f n.0

pub answered : {A : Type 0} (rs : List Reason) (d : A) (f : ℕ → A) {j k : Result ⊤ Refusal} → j ≡ verdict rs → j ≡ k
    → decided rs d f ≡ by_judged d f k
answered rs d f told e = sym (decided-map (by_judged d f) rs (Ok tt) refuse) ∙ ap (by_judged d f) (sym told ∙ e)

-- by whichever table of fixed types
module _ (types : List FixedType) where
  -- what is decided of a file's header
  abbrev pub decided_of : List ℕ → Result ⊤ Refusal
  decided_of file = verdict (header_says types file)

  module _ (file : List ℕ) where
    abbrev size : List Reason
    size = size_says (length file) (field_of file 0 header_length) (field_of file 0 data_bits)

    pub says-20 : length file < 16 → decided_of file ≡ refuse 20
    unfolding header_says
    says-20 h = rw (lt-ltb (length file) 16 h)

    module _ (long : 16 ≤ length file) where
      says-21 : starts_primary file ≡ false → decided_of file ≡ refuse 21
      unfolding header_says
      says-21 h = rw (le-ltb (length file) 16 long, h)

      pub says-21-type : (get_or file 0 0 ≡ 0 → ⊥) → decided_of file ≡ refuse 21
      says-21-type h = says-21 (rw (number_at-one file 0 (omega arith), ne_eqb (get_or file 0 0) 0 h))

      pub says-21-length : (number_at file 1 2 ≡ 16 → ⊥) → decided_of file ≡ refuse 21
      says-21-length h = says-21 (rw (ne_eqb (number_at file 1 2) 16 h, and-false))

      module _ (starts : starts_primary file ≡ true) where
        pub says-22-least : field_of file 0 header_length < 16 → decided_of file ≡ refuse 22
        unfolding header_says
        says-22-least h = rw (le-ltb (length file) 16 long, starts, lt-ltb (field_of file 0 header_length) 16 h)

        pub says-22-beyond : length file < field_of file 0 header_length → decided_of file ≡ refuse 22
        unfolding header_says
        says-22-beyond h =
            rw (le-ltb (length file) 16 long, starts, lt-ltb (length file) (field_of file 0 header_length) h, or-true)

    -- where 20, 21 and 22 let through, the records decide, and then the octets lent
    module _ (w : Whole file) where
      rest : decided_of file ≡ decided (record_by_record types (header_of file)) (verdict size) refuse
      unfolding header_says
      rest =
          rw (
            le-ltb (length file) 16 w.long,
            w.starts,
            le-ltb (field_of file 0 header_length) 16 w.least,
            le-ltb (length file) (field_of file 0 header_length) w.within,
          )
          (decided-append (Ok tt) refuse (record_by_record types (header_of file)) size)

      module _ {part : List ℕ} {j : Result ⊤ Refusal} (is : part ≡ header_of file) (told : j ≡ verdict (record_by_record types part)) where
        own : j ≡ verdict (record_by_record types (header_of file))
        own = told ∙ ap (λ (h : List ℕ). verdict (record_by_record types h)) is

        pub says-records : (n : ℕ) → j ≡ refuse n → decided_of file ≡ refuse n
        says-records n e =
            rest
            ∙ decided-kept (record_by_record types (header_of file)) (verdict size) refuse (λ q. never n (sym q)) (sym own ∙ e)

        pub says-size : j ≡ Ok tt → decided_of file ≡ verdict size
        says-size e =
            let says = record_by_record types (header_of file) in
            rest ∙ none-decided (verdict size) refuse says (decided-none says never (sym own ∙ e))

    pub good-accepts : {j : Result ⊤ Refusal} → j ≡ decided_of file → j ≡ Ok tt → Accepts types file
    good-accepts told e = accepts types file (decided-none (header_says types file) never (sym told ∙ e))

    pub header-length : Accepts types file → length (header_of file) ≡ field_of file 0 header_length
    header-length a = length-take-le (field_of file 0 header_length) file a.head.within

    pub header-fine : {part : List ℕ} → part ≡ header_of file → Accepts types file → Fine types part
    header-fine {part} is a =
        rw is
        (record {
          long = omega (arith, header-length a, a.head.least);
          good = none-decided (Ok tt) refuse (record_by_record types (header_of file)) a.passed;
        })
