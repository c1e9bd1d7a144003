-- The walk over a header, record by record: one law for where it begins, one for a turn, one for the end. Assumes nothing.
use mathlib.Core.Path.{◌≡◌, refl, sym, ap, ◌∙◌}
use mathlib.Core.List.{List, [], ◌∷◌}
use Prim.Native.Nat.{ℕ, zero, suc, ◌+◌, ◌-◌, ◌≤◌, ◌<◌}
use native.Mathlib.Omega.{arith}
use borrow.Author.Tests.{lt-ltb, le-ltb}
use lib.ListN.{length}
use Rattle.records.specs.Records.{record_at, after, records_from, records}
use Rattle.records.specs.declared.Record.{Record}

-- the records from a place on: none where the header ends, and else the one there and those behind it
pub records-end : (k : ℕ) (header : List ℕ) (at : ℕ) → length header ≤ at → records_from k header at ≡ []
unfolding records_from
records-end zero header at h = refl
records-end (suc k) header at h = rw (le-ltb at (length header) h)

pub records-more : (k : ℕ) (header : List ℕ) (at : ℕ) → at < length header
    → records_from (suc k) header at ≡ record_at header at ∷ records_from k header (after (length header) (record_at header at))
unfolding records_from
records-more k header at h = rw (lt-ltb at (length header) h)

-- what is still to do gives what was wanted: f of the records from a place on, as many as can be there
pub record Going {A : Type 0} (header : List ℕ) (wanted : A) (f : List Record → A) (at : ℕ) : Type 0 where
  pub most : ℕ
  pub enough : length header ≤ at + most
  pub gives : wanted ≡ f (records_from most header at)

pub begin : {A : Type 0} (header : List ℕ) (f : List Record → A) → Going header (f (records header)) f 0
unfolding records
begin header f = record { most = length header; enough = omega arith; gives = refl }

-- the record at a place stands there
pub place-of : (header : List ℕ) (at : ℕ) {r : Record} → r ≡ record_at header at → r.place ≡ at
unfolding record_at
place-of header at e = ap (λ (r : Record). r.place) e

module _ {A : Type 0} {header : List ℕ} {wanted : A} {f : List Record → A} {at : ℕ} (g : Going header wanted f at) where
  pub ends : length header ≤ at → wanted ≡ f []
  ends h = g.gives ∙ ap f (records-end g.most header at h)

  module _ {r : Record} (here : r ≡ record_at header at) (h : at < length header) where
    -- one record is here, and as many as are left may follow it
    opened : wanted ≡ f (r ∷ records_from (g.most - 1) header (after (length header) r))
    opened =
        let more : g.most ≡ suc (g.most - 1) = omega (arith, g.enough) in
        g.gives ∙ ap (λ (k : ℕ). f (records_from k header at)) more ∙ ap f (records-more (g.most - 1) header at h)
        ∙ ap (λ (x : Record). f (x ∷ records_from (g.most - 1) header (after (length header) x))) (sym here)

    -- the record settles it
    pub found : (a : A) → ((rs : List Record) → f (r ∷ rs) ≡ a) → wanted ≡ a
    found a settles = opened ∙ settles _

    -- it does not: the rest has to
    pub turn : (f' : List Record → A) (at' : ℕ) → at' ≡ after (length header) r → r.place < at'
        → ((rs : List Record) → f (r ∷ rs) ≡ f' rs) → Going header wanted f' at'
    turn f' at' next on leaves =
        record {
          most = g.most - 1;
          enough = omega (arith, g.enough, place-of header at here);
          gives = opened ∙ leaves _ ∙ ap (λ (n : ℕ). f' (records_from (g.most - 1) header n)) (sym next);
        }
