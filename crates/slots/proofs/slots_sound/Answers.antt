-- `slots_sound` meets its contract, slot after slot. Assumes nothing.
use mathlib.Core.Path.{◌≡◌, refl, sym, ap, ◌∙◌}
use mathlib.Core.Bool.{true, false, not, ◌&&◌, and-false}
use mathlib.Core.List.{List, [], ◌∷◌}
use Prim.Native.Nat.{ℕ, suc, ◌+◌, ◌-◌, ◌<◌}
use native.Mathlib.Numerals.{add-one}
use native.Mathlib.Omega.{arith}
use borrow.Author.Rules.{rules}
use lib.ListN.{length, get_or, take, drop, length-drop}
use lib.Seq.{drop-cons, take_all}
use Rattle.octets.proofs.Lists.{unmap}
use Rattle.octets.proofs.Tests.{and-exchange}
use Rattle.state.specs.declared.Slot.{Slot}
use Rattle.state.specs.Slots.{no_file, incomplete}
use Rattle.state.specs.Decision.{slot_sound, slots_sound, twin_in, sound_alone, no_twins}
use Rattle.state.proofs.Walk.{begins-at, behind, settled, passed, ended}
use Rattle.slots.proofs.slots_sound.Invariants.{Walks}
use Rattle.slots.proofs.slots_sound.Goals as goal

slots_end : (channels ns : List ℕ) → (slots_sound channels ns [] && no_twins []) ≡ true
unfolding slots_sound no_twins
slots_end channels [] = refl
slots_end channels (n ∷ ns) = refl

-- the slot at place k, and those behind it
module _ (channels counts : List ℕ) (k : ℕ) (h : k < length counts) (x : Slot) {xs ys : List Slot} (same : xs ≡ ys) where
  turn : (slots_sound channels (drop k counts) (x ∷ xs) && no_twins (x ∷ xs))
      ≡ (sound_alone channels (get_or counts k 0) x ys && (slots_sound channels (drop (k + 1) counts) xs && no_twins xs))
  unfolding slots_sound no_twins
  turn =
      rw (drop-cons counts k 0 h, add-one k)
      (and-exchange (slot_sound channels (get_or counts k 0) x) (slots_sound channels (drop (suc k) counts) xs) (not (incomplete x && twin_in x xs)) (no_twins xs)
      ∙ ap (λ (zs : List Slot). sound_alone channels (get_or counts k 0) x zs && (slots_sound channels (drop (suc k) counts) xs && no_twins xs)) same)

  stops : sound_alone channels (get_or counts k 0) x ys ≡ false → (slots_sound channels (drop k counts) (x ∷ xs) && no_twins (x ∷ xs)) ≡ false
  stops e = turn ∙ rw e

  goes_on : sound_alone channels (get_or counts k 0) x ys ≡ true
      → (slots_sound channels (drop k counts) (x ∷ xs) && no_twins (x ∷ xs)) ≡ (slots_sound channels (drop (k + 1) counts) xs && no_twins xs)
  goes_on e = turn ∙ rw e

-- a slot by itself, and the slots behind it
module _ (channels : List ℕ) (n : ℕ) (x : Slot) (later : List Slot) where
  unsound : slot_sound channels n x ≡ false → sound_alone channels n x later ≡ false
  unsound e = rw e

  module _ {ys : List Slot} (same : ys ≡ later) where
    twinned : (incomplete x && twin_in x ys) ≡ true → sound_alone channels n x later ≡ false
    twinned t = rw (← same, t, and-false)

    alone : slot_sound channels n x ≡ true → (incomplete x && twin_in x ys) ≡ false → sound_alone channels n x later ≡ true
    alone s t = rw (← same, s, t)

-- what `&slots[k + 1..]` is
rest : (slots : List Slot) (k : ℕ) → length slots ≡ 32 → take (32 - (k + 1)) (drop (k + 1) slots) ≡ drop (k + 1) slots
rest slots k e = take_all (32 - (k + 1)) (drop (k + 1) slots) (omega (arith, length-drop (k + 1) slots))

module _ (channels counts : List ℕ) (slots : List Slot) (k : ℕ) (w : Walks channels counts slots k) (all : length slots ≡ 32) (h : k < 32) where
  refused : sound_alone channels (get_or counts k 0) (get_or slots k no_file) (drop (k + 1) slots) ≡ false
      → false ≡ (slots_sound channels counts slots && no_twins slots)
  refused e = settled w.1 no_file h (stops channels counts k (omega (arith, w.0)) _ (behind w.1 all) e)

  let-pass : sound_alone channels (get_or counts k 0) (get_or slots k no_file) (drop (k + 1) slots) ≡ true → Walks channels counts slots (k + 1)
  let-pass e = (w.0, passed w.1 no_file h (goes_on channels counts k (omega (arith, w.0)) _ (behind w.1 all) e))

pub loop-k-init : goal.loop-k-init
loop-k-init c = (search rules, begins-at _ _ _ 0 (search (rules, unmap)) (omega arith))

pub returns-then-not-slot_sound : goal.returns-then-not-slot_sound
returns-then-not-slot_sound c =
    let no = unsound _ _ _ _ (sym c.slot_sound.ensures ∙ c.if-not-slot_sound.true) in
    refused _ _ _ _ c.loop-k.invariant (search (rules, unmap)) (omega arith) no

pub returns-then-has_twin : goal.returns-then-has_twin
returns-then-has_twin c =
    let no = twinned _ _ _ _ (rest c.args.slots c.loop-k.k (search (rules, unmap))) (sym c.has_twin.ensures ∙ c.if-has_twin.true) in
    refused _ _ _ _ c.loop-k.invariant (search (rules, unmap)) (omega arith) no

pub loop-k-preserved : goal.loop-k-preserved
loop-k-preserved c =
    let sound = sym c.slot_sound.ensures ∙ c.if-not-slot_sound.false in
    let yes = alone _ _ _ _ (rest c.args.slots c.loop-k.k (search (rules, unmap))) sound (sym c.has_twin.ensures ∙ c.if-has_twin.false) in
    let-pass _ _ _ _ c.loop-k.invariant (search (rules, unmap)) (omega arith) yes

pub returns : goal.returns
returns c = ended c.loop-k.invariant.1 (omega arith) (slots_end _ _)
