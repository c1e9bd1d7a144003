-- What is told of a complete file is what its first packet says, and of no other file anything is told. Assumes nothing.
use Rattle.std.specs.Prelude.{Result, Ok, Err}
use mathlib.Core.Path.{◌≡◌, refl, sym, ap, ◌∙◌}
use mathlib.Core.Bool.{Bool, true, false, true≢false}
use mathlib.Core.Logic.{◌⊎◌, inl, inr, ⊎_elim}
use mathlib.Core.List.{List, [], ◌∷◌, flat_map}
use Prim.Native.Nat.{ℕ, ◌≤◌, ◌<◌}
use native.Mathlib.Omega.{arith}
use borrow.Author.Tests.{lt-ltb, ltb-true}
use lib.Dec.{ltb}
use lib.ListN.{length, take, get_or, length-take}
use lib.Seq.{take-append-le}
use Rattle.octets.proofs.Decide.{told-true}
use Rattle.octets.proofs.Tests.{and_left, and_right, and_both}
use Rattle.refusals.specs.declared.Refusal.{Refusal}
use Rattle.refusals.specs.Refusals.{refuse}
use Rattle.packet.specs.Header.{packet_of}
use Rattle.transport.specs.declared.Transport.{Transport}
use Rattle.facts.specs.declared.Facts.{Facts}
use Rattle.transport.specs.Length.{transport_of}
use Rattle.transport.proofs.Length.{length-plainly}
use Rattle.state.specs.declared.Slot.{Slot}
use Rattle.state.specs.declared.Station.{Station}
use Rattle.state.specs.Slots.{slot_at, held, complete}
use Rattle.state.specs.Blocks.{blocks_of}
use Rattle.state.specs.Sound.{Sized}
use Rattle.state.proofs.Exactly.{held-accepted, sound-yes}
use Rattle.room.specs.File.{block_octets, joined}
use Rattle.judge.specs.Judge.{data_of, first_slot, next_slot}
use Rattle.judge.proofs.Parts.{begun-right}
use Rattle.station.specs.Files.{is_held, counter_in, facts_in, told_number}
use Rattle.station.proofs.Calls.{told_is, told-zero}
use Rattle.station.proofs.Counters.{counter-front}
use Rattle.history.specs.Run.{World, Call, run, Start, fresh, SoundWorld}
use Rattle.history.specs.Follow.{added}
use Rattle.history.specs.Ledger.{Page, ledger_run, no_pages}
use Rattle.history.specs.Calls.{told_in}
use Rattle.history.specs.Files.{CameInRun, InOrder, facts_of, FactsCame, TellingRefused, TellingsRefused, FactsGood}
use Rattle.history.specs.Demands.{EveryRun}
use Rattle.history.proofs.Sound.{world-sound, world_store, run_sound, fresh-sound}
use Rattle.history.proofs.Follows.{complete-held, held-exactly}
use Rattle.history.proofs.Order.{packets-right}
use Rattle.history.proofs.Pages.{blocks-hold}
use Rattle.history.proofs.Carried.{pages-came}
use Rattle.history.proofs.LetGo.{not-held}

-- of blocks joined, the first begins them
front : (store bs d : List ℕ) → 1 ≤ length bs → take (length d) (block_octets store (get_or bs 0 0)) ≡ d → take (length d) (joined store bs) ≡ d
unfolding joined flat_map
front store [] d one e = absurd (omega arith)
front store (b ∷ bs) d one e =
    let here = block_octets store b in
    take-append-le (length d) here (flat_map (block_octets store) bs) (omega (arith, ap length e, length-take (length d) here)) ∙ e

-- packets that go on with a file change neither its key nor its length
same-file : (x : Slot) (ps : List (List ℕ)) (y : Slot) → InOrder x ps y
    → (y.channel ≡ x.channel) × (y.application ≡ x.application) × (y.bits ≡ x.bits)
same-file x [] y e =
    (ap (λ (z : Slot). z.channel) (sym e), ap (λ (z : Slot). z.application) (sym e), ap (λ (z : Slot). z.bits) (sym e))
same-file x (p ∷ ps) y (g, o) = same-file (next_slot x (packet_of p)) ps y o

module _ {w : World} (h : SoundWorld w) (k : ℕ) where
  none_told : ((k < 32) × (held (slot_at w.station k) ≡ true) → ⊥) → told_in w k ≡ refuse 11
  none_told n = told_is w.station k w.store ∙ rw (world_store h, world-sound h, not-held w.station k n)

  part-told : k < 32 → held (slot_at w.station k) ≡ true → complete (slot_at w.station k) ≡ false → told_in w k ≡ refuse 12
  part-told low here part = told_is w.station k w.store ∙ rw (world_store h, world-sound h, lt-ltb k 32 low, here, part)

  whole-told : k < 32 → complete (slot_at w.station k) ≡ true → told_in w k ≡ Ok (facts_in w.station w.store k)
  whole-told low whole =
      told_is w.station k w.store
      ∙ rw (world_store h, world-sound h, lt-ltb k 32 low, (complete-held (slot_at w.station k) whole).0, whole)

  -- a number that is given, and why
  numbered : (n : ℕ) → told_in w k ≡ refuse n
      → (((k < 32) × (held (slot_at w.station k) ≡ true) → ⊥) × (n ≡ 11))
      ⊎ (((k < 32) × (held (slot_at w.station k) ≡ true) × (complete (slot_at w.station k) ≡ false)) × (n ≡ 12))
  numbered n e = go (is_held s k) (complete (slot_at s k)) refl refl
    where
      s : Station
      s = w.station

      go : (b c : Bool) → is_held s k ≡ b → complete (slot_at s k) ≡ c
          → (((k < 32) × (held (slot_at s k) ≡ true) → ⊥) × (n ≡ 11))
          ⊎ (((k < 32) × (held (slot_at s k) ≡ true) × (complete (slot_at s k) ≡ false)) × (n ≡ 12))
      go false c f g =
          let away : (k < 32) × (held (slot_at s k) ≡ true) → ⊥ =
          λ (low, here). true≢false (sym (and_both (lt-ltb k 32 low) here) ∙ f) in
          inl (away, ap told_number (sym e ∙ none_told away))
      go true false f g =
          let low = ltb-true k 32 (and_left (ltb k 32) (held (slot_at s k)) f) in
          let here = and_right (ltb k 32) (held (slot_at s k)) f in
          inr ((low, here, g), ap told_number (sym e ∙ part-told low here g))
      go true true f g =
          let low = ltb-true k 32 (and_left (ltb k 32) (held (slot_at s k)) f) in
          let other : refuse n ≡ Ok (facts_in s w.store k) = sym e ∙ whole-told low g in
          absurd (let z : ◌≡◌ {A = ℕ} 0 1 = cc in omega arith)

  telling-refused : TellingRefused w k
  telling-refused =
      record {
        by-11 = (λ e. ⊎_elim (λ (away, q). away) (λ (part, q). absurd (omega (arith, q))) (numbered 11 e), none_told);
        by-12 = (
          λ e. ⊎_elim (λ (away, q). absurd (omega (arith, q))) (λ (part, q). part) (numbered 12 e),
          λ (low, here, part). part-told low here part,
        );
        no_other = λ n e. ⊎_elim (λ (away, q). inl q) (λ (part, q). inr q) (numbered n e);
      }

pub tellings-refused : EveryRun TellingsRefused
tellings-refused x cs = telling-refused (run_sound (fresh-sound x) cs)

-- the blocks of a file that came about begin with the data of its first packet
module _ (x : Start) (cs : List Call) (k : ℕ) (low : k < 32) (y : Slot) (m : CameInRun x cs k y) (done : complete y ≡ true) where
  abbrev end : World
  end = run (fresh x) cs

  slot : slot_at end.station k ≡ y
  slot = (held-exactly x cs k low y (complete-held y done).0).1 m

  counter : counter_in end.station end.store k ≡ (transport_of (data_of m.first)).counter
  unfolding counter_in
  counter =
      let here : held (slot_at end.station k) ≡ true = ap held slot ∙ (complete-held y done).0 in
      let page = blocks-hold x cs k low here in
      let some = held-accepted (slot_at end.station k) here in
      let first : get_or (ledger_run (fresh x) cs no_pages k) 0 [] ≡ data_of m.first =
      ap (λ (q : Page). get_or q 0 []) (pages-came x cs k low y m) in
      let file = (run_sound (fresh-sound x) cs).sound.files k low here in
      let bs = blocks_of end.station k in
      let ten = (begun-right (packet_of m.first).flags (data_of m.first) m.starts.right).long in
      counter-front (joined end.store bs) (data_of m.first) (omega arith)
      (front end.store bs (data_of m.first) (omega (arith, file.accepted, file.places)) (rw first at (page.blocks 0 (omega arith))))

  facts : facts_in end.station end.store k ≡ facts_of m.channel m.first
  unfolding facts_in
  facts =
      let begun = first_slot m.channel (packet_of m.first) m.file in
      let (c, a, l) = same-file begun (added k begun m.later) y (packets-right m).in_order in
      let right = begun-right (packet_of m.first).flags (data_of m.first) m.starts.right in
      let channel = ap (λ (z : Slot). z.channel) slot ∙ c in
      let application = ap (λ (z : Slot). z.application) slot ∙ a in
      let bits = ap (λ (z : Slot). z.bits) slot ∙ l ∙ ap (λ (t : Transport). t.bits) right.is in
      λ i. record { channel = channel i; application = application i; counter = counter i; bits = bits i }

  told : told_in end k ≡ Ok (facts_of m.channel m.first)
  told = whole-told (run_sound (fresh-sound x) cs) k low (ap complete slot ∙ done) ∙ ap Ok facts

-- what is told of a complete file is what the first packet accepted for it says
pub facts-came : (x : Start) (cs : List Call) → FactsCame x cs
facts-came x cs = told x cs

-- what is told of a file is what a sound slot holds
abbrev fact : Result Facts Refusal → Facts → Facts
fact (Ok f) g = f
fact (Err n) g = g

pub facts-good : (w : World) → Sized w.station → FactsGood w
unfolding facts_in
facts-good w z k f e =
    let s = w.station in
    let (fits, sound, low, whole) = (told-zero s k w.store).0 (ap told_number e) in
    let S = sound-yes z sound in
    let here = (complete-held (slot_at s k) whole).0 in
    let H = S.files k low here in
    let is_known : told_in w k ≡ Ok (facts_in s w.store k) =
    told_is s k w.store ∙ rw (fits, sound, lt-ltb k 32 low, here, whole) in
    let known : f ≡ facts_in s w.store k = ap (λ (t : Result Facts Refusal). fact t f) (sym e ∙ is_known) in
    let (i, within, is) = H.watched in
    let some = told-true (length-plainly (slot_at s k).bits) H.bits in
    rw known (omega (arith, S.set_up.low i within, is), H.application, omega (arith, some))
