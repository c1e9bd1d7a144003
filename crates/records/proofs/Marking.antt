-- "23, 24, 25 are tried record by record": the walk that judges, with a mark for each type seen. Assumes nothing.
use Rattle.std.specs.Prelude.{Result, Ok, ⊤}
use mathlib.Core.Path.{◌≡◌, refl, sym, ◌∙◌}
use mathlib.Core.Bool.{Bool, true, false, ◌||◌}
use mathlib.Core.List.{List, [], ◌∷◌}
use Prim.Native.Nat.{ℕ, ◌≤◌, ◌<◌}
use native.Mathlib.Omega.{arith}
use borrow.Author.Tests.{eqb-true, eqb-false}
use lib.Dec.{eqb}
use lib.ListN.{length, get_or, set, replicate, length-set, length-replicate, get_or-replicate}
use lib.Seq.{get_or-set_same, get_or-set_other}
use Rattle.octets.specs.Reasons.{Reason, decided}
use Rattle.octets.proofs.Reasons.{none-decided, decided-none, decided-append, decided-kept}
use Rattle.refusals.specs.declared.Refusal.{Refusal}
use Rattle.refusals.specs.Refusals.{refuse, verdict}
use Rattle.records.specs.Table.{FixedType}
use Rattle.records.specs.Records.{record_at, after, records, record_says, seen_in, records_say}
use Rattle.records.specs.declared.Record.{Record}
use Rattle.records.proofs.Passing.{never}
use Rattle.records.proofs.Walk.{Going, begin, found, turn, ends}

-- the types of the records before have their mark, and no other has
pub record Marked (seen : List Bool) (before : List Record) : Type 0 where
  pub long : length seen ≡ 256
  pub marks : (t : ℕ) → t < 256 → get_or seen t false ≡ seen_in before t

pub none-marked : Marked (replicate 256 false) []
unfolding seen_in
none-marked =
    record { long = length-replicate {A = Bool} 256 false; marks = λ t h. get_or-replicate {A = Bool} 256 t false false h }

-- one more mark
pub marked_more : {seen : List Bool} {before : List Record} → Marked seen before → (r : Record) → r.kind < 256
    → Marked (set seen r.kind true) (r ∷ before)
unfolding seen_in
marked_more {seen} {before} m r h =
    record {
      long = length-set seen r.kind true ∙ m.long;
      marks = λ t low. mark t low (eqb t r.kind) refl;
    }
  where
    mark : (t : ℕ) → t < 256 → (b : Bool) → eqb t r.kind ≡ b → get_or (set seen r.kind true) t false ≡ (b || seen_in before t)
    mark t low true e =
        let k : t ≡ r.kind = eqb-true t r.kind e in
        rw k (get_or-set_same seen r.kind true false (omega (arith, m.long)))
    mark t low false e = get_or-set_other seen r.kind t true false (eqb-false t r.kind e) ∙ m.marks t low

-- by whichever table of fixed types
module _ (types : List FixedType) where
  abbrev pub judged_of : ℕ → List Record → List Record → Result ⊤ Refusal
  judged_of end before rs = verdict (records_say types end before rs)

  -- what the records from a place on are judged, with the marks of those before, is what the header is judged
  pub record Judging (header : List ℕ) (seen : List Bool) (at : ℕ) : Type 0 where
    pub before : List Record
    pub marked : Marked seen before
    pub going : Going header (judged_of (length header) [] (records header)) (judged_of (length header) before) at

  pub judging-begins : (header : List ℕ) → Judging header (replicate 256 false) 0
  judging-begins header =
      record { before = []; marked = none-marked; going = begin header (judged_of (length header) []) }

  module _ {header : List ℕ} {seen : List Bool} {at : ℕ} (g : Judging header seen at) where
    pub judging-ends : length header ≤ at → judged_of (length header) [] (records header) ≡ Ok tt
    unfolding records_say
    judging-ends h = ends g.going h

    module _ {r : Record} {j : Result ⊤ Refusal} (here : r ≡ record_at header at) (h : at < length header) (low : r.kind < 256)
        (told : j ≡ verdict (record_says types (length header) (get_or seen r.kind false) r)) where
      -- what is said of this record, and what is judged of those behind it
      abbrev here-says : List Reason
      here-says = record_says types (length header) (seen_in g.before r.kind) r

      abbrev later : List Record → Result ⊤ Refusal
      later rs = judged_of (length header) (r ∷ g.before) rs

      own : j ≡ verdict here-says
      own = rw (sym (g.marked.marks r.kind low)) told

      split : (rs : List Record) → judged_of (length header) g.before (r ∷ rs) ≡ decided here-says (later rs) refuse
      unfolding records_say
      split rs = decided-append (Ok tt) refuse here-says (records_say types (length header) (r ∷ g.before) rs)

      pub judging-refused : (n : ℕ) → j ≡ refuse n → judged_of (length header) [] (records header) ≡ refuse n
      judging-refused n e =
          found g.going here h (refuse n)
          (λ rs. split rs ∙ decided-kept here-says (later rs) refuse (λ q. never n (sym q)) (sym own ∙ e))

      pub judging-on : (at' : ℕ) → j ≡ Ok tt → at' ≡ after (length header) r → r.place < at' → Judging header (set seen r.kind true) at'
      judging-on at' e next on =
          record {
            before = r ∷ g.before;
            marked = marked_more g.marked r low;
            going = turn g.going here h later at' next on
                (λ rs. split rs ∙ none-decided (later rs) refuse here-says (decided-none here-says never (sym own ∙ e)));
          }
