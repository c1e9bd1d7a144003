-- A complete file is read out, and its header is read to its meaning or refused by number. Assumes nothing.
use Rattle.std.specs.Prelude.{Ok}
use Rattle.refusals.specs.Refusals.{refuse}
use mathlib.Core.Path.{◌≡◌, refl, ap, ◌∙◌}
use mathlib.Core.Bool.{true, false}
use mathlib.Core.Logic.{inl, inr}
use mathlib.Core.List.{List}
use Prim.Native.Nat.{ℕ}
use native.Mathlib.Omega.{arith}
use lib.ListN.{length, take, replicate, length-replicate}
use lib.Seq.{take_all}
use Rattle.octets.proofs.Reasons.{NoneApplies, decided-cases, none-decided, first-decided, first-between}
use Rattle.records.specs.Table.{fixed_types}
use Rattle.records.specs.Records.{header_of, records, header_says, nth}
use Rattle.records.specs.Reader.{fields_of, read_header, read_record}
use Rattle.records.specs.Together.{Accepted}
use Rattle.records.proofs.Together.{together, header-between}
use Rattle.records.proofs.Placing.{place-of-one, place-of-none}
use Rattle.transport.specs.Length.{octets_of_bits}
use Rattle.state.specs.Slots.{slot_at}
use Rattle.history.specs.Run.{Call, run, Start, fresh}
use Rattle.history.specs.Ledger.{ledger_run, no_pages}
use Rattle.history.specs.Files.{carried}
use Rattle.history.specs.Headers.{ReadToMeaning, HeaderRight, HeadersRead}
use Rattle.history.proofs.Pages.{files-carried}

module _ (file : List ℕ) where
  header-accepted : NoneApplies (header_says fixed_types file) → Accepted fixed_types file
  header-accepted none = none-decided true (λ n. false) (header_says fixed_types file) none

  header_read : NoneApplies (header_says fixed_types file) → ReadToMeaning file
  unfolding read_header read_record
  header_read none =
      let whole = together fixed_types file (header-accepted none) in
      record {
        none = none-decided 0 (λ n. n) (header_says fixed_types file) none;
        together = whole;
        placed =
            record {
              there = λ r n m fixed. place-of-one r.kind r (records (header_of file)) (whole.once r.kind n fixed) m refl;
              absent = λ kind away. place-of-none kind (records (header_of file)) away;
            };
        fields = none-decided (Ok (fields_of (header_of file))) refuse (header_says fixed_types file) none;
        asked = λ n. none-decided (nth (records (header_of file)) n) refuse (header_says fixed_types file) none;
      }

  -- of any octets
  pub header-right : HeaderRight file
  unfolding read_header read_record
  header-right =
      decided-cases (λ (u : Unit {0}). HeaderRight file) (header_says fixed_types file) {done = tt} {refused = λ n. tt} (λ none. inl (header_read none))
      (λ n first.
      inr (
        n,
        record {
          first = first-decided 0 (λ m. m) first;
          range = first-between 20 26 first (header-between fixed_types 26 (omega arith) file);
          fields = first-decided (Ok (fields_of (header_of file))) refuse first;
          asked = λ i. first-decided (nth (records (header_of file)) i) refuse first;
        },
      ))

pub headers-read : (x : Start) (cs : List Call) → HeadersRead x cs
headers-read x cs k low done =
    let w = run (fresh x) cs in
    let page = ledger_run (fresh x) cs no_pages k in
    let file = files-carried x cs k low done in
    let size = octets_of_bits (slot_at w.station k).bits in
    let buffer : List ℕ = replicate size 0 in
    let long : length buffer ≡ size = length-replicate size 0 in
    let (answer, gives) = file.read-part 0 buffer (omega arith) in
    record {
      answer = answer;
      octets =
          gives ∙ ap (λ (n : ℕ). take n (carried page)) long
          ∙ take_all size (carried page) (omega (arith, file.size));
      header = header-right _;
    }
