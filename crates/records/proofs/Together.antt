-- Theorems about whole headers: what the records of an accepted one have together, that nothing of the data field enters, which numbers are
-- given, and that there are headers that are accepted. Assumes nothing.
use Rattle.std.specs.Prelude.{if◌then◌else◌, Some, Result, Ok}
use mathlib.Core.Path.{◌≡◌, refl, sym, ap, ap₂, subst, ◌∙◌}
use mathlib.Core.Bool.{Bool, true, false, ◌&&◌, or-true, true≢false, false≢true}
use mathlib.Core.Logic.{inl, inr, ◌↔◌}
use mathlib.Core.List.{List, [], ◌∷◌}
use Prim.Native.Nat.{ℕ, zero, suc, ◌+◌, ◌≤◌, ◌<◌}
use native.Mathlib.Omega.{arith}
use borrow.Author.Tests.{le-leb, lt-leb, eq-eqb, ltb-true, ltb-false, eqb-true}
use lib.Dec.{leb, ltb, eqb}
use lib.ListN.{length, take}
use Rattle.octets.specs.Number.{number_at}
use Rattle.octets.specs.Reasons.{Reason, decided}
use Rattle.octets.proofs.Lists.{if-cases}
use Rattle.octets.proofs.Numbers.{number_at-part}
use Rattle.octets.proofs.Tests.{and_right}
use Rattle.octets.proofs.Reasons.{NoneApplies, decided-cases, decided-none, none-decided, first-decided, between-append, first-between, Between}
use Rattle.refusals.specs.declared.Refusal.{Refusal}
use Rattle.refusals.specs.Refusals.{refuse}
use Rattle.records.specs.Table.{FixedType, header_length, data_bits, fixed_types, length_of}
use Rattle.records.specs.Records.{field_of, header_of, record_at, after, records_from, records, record_says, seen_in, records_say, record_by_record, size_says, header_says, nth}
use Rattle.records.specs.Reader.{fields_of, read_header, read_record, header_number, record_number}
use Rattle.records.specs.Together.{Accepted, Cover, holds_octet, how_many, Together, HeaderAlone, ZeroOr, filled_types}
use Rattle.records.specs.Together.Cover.{done, next}
use Rattle.records.specs.declared.Record.{Record}
use Rattle.records.specs.declared.Header.{Header}
use Rattle.records.proofs.Cuts.{uncut-within, after-uncut}
use Rattle.records.proofs.Passing.{Passed, Accepts, accepts, passes, length-fixed, unseen}
use Rattle.records.proofs.Answering.{header-length}

-- an octet before the first record is in none, and one behind its beginning is in one
before-all : {end at : ℕ} {rs : List Record} → Cover end at rs → (i : ℕ) → i < at → how_many (holds_octet i) rs ≡ 0
unfolding how_many
before-all done i h = refl
before-all (next {r} c) i h = rw (lt-leb r.place i h) (ap (λ (n : ℕ). 0 + n) (before-all c i (omega arith)))

in_one : {end at : ℕ} {rs : List Record} → Cover end at rs → (i : ℕ) → at ≤ i → i < end → how_many (holds_octet i) rs ≡ 1
unfolding how_many
in_one done i h k = absurd (omega arith)
in_one {end} (next {r} {rs} c) i h k =
    if-cases (λ (n : ℕ). n + how_many (holds_octet i) rs ≡ 1) (holds_octet i r)
    (λ is.
    ap (λ (n : ℕ). 1 + n)
    (before-all c i (ltb-true i (r.place + r.length) (and_right (leb r.place i) (ltb i (r.place + r.length)) is))))
    (λ isn't.
    ap (λ (n : ℕ). 0 + n)
    (in_one c i (ltb-false i (r.place + r.length) (rw (le-leb r.place i h) at isn't)) k))

-- "Fixed": the fields fill their records
pub filled : filled_types fixed_types ≡ true
filled = refl

-- by whichever table of fixed types
module _ (types : List FixedType) where
  pub accepted : (file : List ℕ) → Accepted types file → Accepts types file
  accepted file e = accepts types file (decided-none (header_says types file) (λ n q. false≢true q) e)

  -- each record begins where the one before it ends, and the last ends at the header's end
  module _ (header : List ℕ) where
    covered : (k : ℕ) (before : List Record) (at : ℕ) → at ≤ length header → length header ≤ at + k
        → NoneApplies (records_say types (length header) before (records_from k header at)) → Cover (length header) at (records_from k header at)
    unfolding records_from record_at
    covered zero before at within enough none =
        let all : length header ≡ at = omega arith in
        subst (λ (n : ℕ). Cover (length header) n []) all done
    covered (suc k) before at within enough none =
        if-cases (λ (rs : List Record). NoneApplies (records_say types (length header) before rs) → Cover (length header) at rs) (ltb at (length header))
        (λ more some.
        let r = record_at header at in
        let on = after (length header) r in
        let (first, rest) = passes types before r (records_from k header on) some in
        let (least, inside) = uncut-within (length header) r first.whole in
        let there : on ≡ at + r.length = after-uncut (length header) r first.whole in
        next (subst (λ (n : ℕ). Cover (length header) n (records_from k header on)) there
        (covered k (r ∷ before) on (omega arith) (omega arith) rest)))
        (λ ended some.
        let all : length header ≡ at = omega (arith, ltb-false at (length header) ended) in
        subst (λ (n : ℕ). Cover (length header) n []) all done)
        none

  module _ (end kind : ℕ) {n : ℕ} (fixed : length_of types kind ≡ Some n) where
    -- a record of the fixed type
    same_kind : (r : Record) → eqb r.kind kind ≡ true → length_of types r.kind ≡ Some n
    same_kind r is = ap (length_of types) (eqb-true r.kind kind is) ∙ fixed

    -- where one stood before none follows, and at most one is there
    once-from : (before rs : List Record) → NoneApplies (records_say types end before rs)
        → (seen_in before kind ≡ true → how_many (λ (r : Record). eqb r.kind kind) rs ≡ 0)
        × (how_many (λ (r : Record). eqb r.kind kind) rs ≤ 1)
    unfolding how_many seen_in
    once-from before [] none = (λ seen. refl, omega arith)
    once-from before (r ∷ rs) none =
        let (first, rest) = passes types before r rs none in
        let (later, few) = once-from (r ∷ before) rs rest in
        let others = how_many (λ (x : Record). eqb x.kind kind) rs in
        if-cases (λ (one : ℕ). (seen_in before kind ≡ true → one + others ≡ 0) × (one + others ≤ 1)) (eqb r.kind kind)
        (λ is.
        let same : r.kind ≡ kind = eqb-true r.kind kind is in
        let alone : others ≡ 0 = later (rw (eq-eqb kind r.kind (sym same))) in
        (λ seen. absurd (true≢false (sym seen ∙ rw same at (unseen types first (same_kind r is)))), omega arith))
        (λ isn't.
        let none_here : 0 + others ≡ others = omega arith in
        (λ seen. none_here ∙ later (rw (seen, or-true)), omega arith))

    right-from : (before rs : List Record) → NoneApplies (records_say types end before rs)
        → how_many (λ (r : Record). eqb r.kind kind && eqb r.length n) rs ≡ how_many (λ (r : Record). eqb r.kind kind) rs
    unfolding how_many
    right-from before [] none = refl
    right-from before (r ∷ rs) none =
        let (first, rest) = passes types before r rs none in
        ap₂ (λ (b : Bool) (others : ℕ). (if b then 1 else 0) + others) (both first (eqb r.kind kind) refl) (right-from (r ∷ before) rs rest)
      where
        both : Passed types end before r → (b : Bool) → eqb r.kind kind ≡ b → (b && eqb r.length n) ≡ b
        both first true is = eq-eqb r.length n (length-fixed types first (same_kind r is))
        both first false isn't = refl

  pub together : (file : List ℕ) → Accepted types file → Together types file
  unfolding records
  together file e =
      let a = accepted file e in
      let header = header_of file in
      let long : length header ≡ field_of file 0 header_length = header-length types file a in
      let cover : Cover (field_of file 0 header_length) 0 (records header) =
      subst (λ (n : ℕ). Cover n 0 (records header)) long (covered header (length header) [] 0 (omega arith) (omega arith) a.passed)
      in
      record {
        within = a.head.within;
        filled = a.filled;
        cover = cover;
        one = λ i h. in_one cover i (omega arith) h;
        once = λ kind n fixed. (once-from (length header) kind fixed [] (records header) a.passed).1;
        right = λ kind n fixed. right-from (length header) kind fixed [] (records header) a.passed;
      }

  -- nothing of the data field but its length enters
  module _ (file : List ℕ) (a : Accepts types file) (other : List ℕ) (long : length other ≡ length file)
      (same : take (field_of file 0 header_length) other ≡ header_of file) where
    agree : (at width : ℕ) → at + width ≤ field_of file 0 header_length → number_at other (0 + at) width ≡ number_at file (0 + at) width
    agree at width h =
        let end = field_of file 0 header_length in
        sym (number_at-part other 0 end at width h) ∙ ap (λ (xs : List ℕ). number_at xs at width) same ∙ number_at-part file 0 end at width h

    header-same : header_of other ≡ header_of file
    header-same = ap (λ (n : ℕ). take n other) (agree 4 4 (omega (arith, a.head.least))) ∙ same

    says_same : header_says types other ≡ header_says types file
    unfolding header_says
    says_same =
        let deep = a.head.least in
        rw (
          long,
          agree 0 1 (omega arith),
          agree 1 2 (omega arith),
          agree 4 4 (omega arith),
          agree 8 8 (omega arith),
          same,
        )

  -- the numbers that can be given
  module _ (high : ℕ) (h : 26 ≤ high) where
    records-between : (end : ℕ) (before rs : List Record) → Between 20 high (records_say types end before rs)
    unfolding records_say
    records-between end before [] = tt
    records-between end before (r ∷ rs) =
        between-append 20 high (record_says types end (seen_in before r.kind) r) (records_say types end (r ∷ before) rs)
        ((omega arith, omega arith), ((omega arith, omega arith), ((omega arith, omega arith), tt)))
        (records-between end (r ∷ before) rs)

    pub header-between : (file : List ℕ) → Between 20 high (header_says types file)
    unfolding header_says
    header-between file =
        let says = record_by_record types (header_of file) in
        let size = size_says (length file) (field_of file 0 header_length) (field_of file 0 data_bits) in
        let each = records-between (length (header_of file)) [] (records (header_of file)) in (
          (omega arith, omega arith),
          (
            (omega arith, omega arith),
            (
              (omega arith, omega arith),
              between-append 20 high says size each ((omega arith, omega arith), tt),
            ),
          ),
        )

-- what the two readers answer
pub header-alone : (file : List ℕ) → Accepted fixed_types file → HeaderAlone file
unfolding read_header read_record
header-alone file e =
    let a = accepted fixed_types file e in
    record {
      fields = λ other long same. ap₂ (λ (rs : List Reason) (h : List ℕ). decided rs (Ok (fields_of h)) refuse)
          (says_same fixed_types file a other long same) (header-same fixed_types file a other long same);
      asked = λ other n long same. ap₂ (λ (rs : List Reason) (h : List ℕ). decided rs (nth (records h) n) refuse)
          (says_same fixed_types file a other long same) (header-same fixed_types file a other long same);
    }

pub header-answers : (file : List ℕ) → ZeroOr 20 26 (header_number (read_header file))
unfolding read_header fields_of
header-answers file =
    decided-cases (λ (r : Result Header Refusal). ZeroOr 20 26 (header_number r)) (header_says fixed_types file) (λ none. inl refl)
    (λ n first. inr (first-between 20 26 first (header-between fixed_types 26 (omega arith) file)))

nth-answers : (rs : List Record) (n : ℕ) → ZeroOr 20 27 (record_number (nth rs n))
unfolding nth
nth-answers [] n = inr (omega arith, omega arith)
nth-answers (r ∷ rs) zero = inl refl
nth-answers (r ∷ rs) (suc n) = nth-answers rs n

pub record-answers : (file : List ℕ) (n : ℕ) → ZeroOr 20 27 (record_number (read_record file n))
unfolding read_record
record-answers file n =
    decided-cases (λ (r : Result Record Refusal). ZeroOr 20 27 (record_number r)) (header_says fixed_types file)
    (λ none. nth-answers (records (header_of file)) n)
    (λ k first. inr (first-between 20 27 first (header-between fixed_types 27 (omega arith) file)))

-- a header's fields are given exactly if nothing is refused of it
pub given-exactly : (file : List ℕ) → (header_number (read_header file) ≡ 0) ↔ Accepted fixed_types file
unfolding read_header fields_of
given-exactly file =
    decided-cases (λ (r : Result Header Refusal). (header_number r ≡ 0) ↔ Accepted fixed_types file) (header_says fixed_types file)
    (λ none. (λ e. none-decided true (λ n. false) (header_says fixed_types file) none, λ e. refl))
    (λ n first. (
      λ e. absurd (omega (arith, (first-between 20 26 first (header-between fixed_types 26 (omega arith) file)).0)),
      λ e. absurd (true≢false (sym e ∙ first-decided true (λ k. false) first)),
    ))
