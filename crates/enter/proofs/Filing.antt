-- A file entered by its header, and an empty catalogue. Assumes nothing.
use Rattle.std.specs.Prelude.{Result, Ok, Err}
use mathlib.Core.Path.{◌≡◌, sym, ap, ◌∙◌}
use mathlib.Core.List.{List}
use Prim.Native.Nat.{ℕ, ◌<◌, ◌≤◌}
use borrow.Author.Tests.{lt-ltb, le-ltb}
use lib.ListN.{length, take, replicate}
use Rattle.octets.specs.Buffer.{put}
use Rattle.octets.proofs.Reasons.{decided-append, decided-map}
use Rattle.refusals.specs.declared.Refusal.{Refusal}
use Rattle.refusals.specs.Refusals.{refuse}
use Rattle.records.specs.Table.{fixed_types}
use Rattle.records.specs.Records.{header_says, header_of}
use Rattle.records.specs.Reader.{fields_of, read_header}
use Rattle.records.specs.declared.Header.{Header}
use Rattle.facts.specs.declared.Facts.{Facts}
use Rattle.catalogue.specs.declared.Entry.{Entry}
use Rattle.catalogue.specs.Entering.{Outcome, gives, entered, entry_for, entry_says, entry_entered, file_entered, begun}
use Rattle.catalogue.proofs.Promised.{empty-written}
use Rattle.enter.specs.Contract.{entry_by}

module _ (b : List ℕ) (used : ℕ) (f : Facts) (file : List ℕ) where
  -- what comes of what was read
  abbrev by : Result Header Refusal → Outcome
  by (Err n) = gives (refuse n.0) b
  by (Ok h) = entry_entered b used (entry_by f h)

  -- the reasons of the header come before those of the entry
  by-header : by (read_header file) ≡ file_entered b used f file
  unfolding read_header fields_of entry_for entry_entered file_entered
  by-header =
      let e = entry_for f file in
      let w = entered (take used b) e in
      decided-map (λ (a : Result Header Refusal). by a) (header_says fixed_types file) (Ok (fields_of (header_of file))) refuse
      ∙ sym (decided-append (gives (Ok (length w)) (put b 0 w)) (λ (n : ℕ). gives (refuse n) b) (header_says fixed_types file) (entry_says b used e))

  module _ {a : Result Header Refusal} (q : a ≡ read_header file) where
    pub file-refused : {n : ℕ} → a ≡ refuse n → gives (refuse n) b ≡ file_entered b used f file
    file-refused r = sym (ap by r) ∙ ap (λ (x : Result Header Refusal). by x) q ∙ by-header

    pub file-read : {h : Header} {e : Entry} {o : Outcome} → a ≡ Ok h → e ≡ entry_by f h → o ≡ entry_entered b used e
        → o ≡ file_entered b used f file
    file-read r s t = t ∙ ap (entry_entered b used) s ∙ sym (ap by r) ∙ ap (λ (x : Result Header Refusal). by x) q ∙ by-header

-- an empty catalogue, or no room for one
module _ (b : List ℕ) where
  pub not-begun : length b < 6 → gives (refuse 34) b ≡ begun b
  unfolding begun
  not-begun h = sym (rw (empty-written, lt-ltb (length b) 6 h))

  pub is-begun : {d : List ℕ} → 6 ≤ length b → d ≡ put b 0 (replicate 6 0) → gives (Ok 6) d ≡ begun b
  unfolding begun
  is-begun h q = ap (gives (Ok 6)) q ∙ sym (rw (empty-written, le-ltb (length b) 6 h))
