-- What is asked first where a file is read or told of: the slot of a complete file, or a refusal; and what follows on it. Assumes nothing.
use Rattle.std.specs.Prelude.{if◌then◌else◌, Result, Ok, Err}
use mathlib.Core.Path.{◌≡◌, sym, ap, subst, ◌∙◌}
use mathlib.Core.Bool.{true, false}
use mathlib.Core.List.{List}
use Prim.Native.Nat.{ℕ, ◌<◌}
use native.Mathlib.Omega.{arith}
use Rattle.octets.specs.Reasons.{decided}
use Rattle.octets.proofs.Reasons.{decided-cases, decided-map, Between, first-between}
use Rattle.refusals.specs.declared.Refusal.{Refusal}
use Rattle.refusals.specs.Refusals.{refuse}
use Rattle.facts.specs.declared.Facts.{Facts}
use Rattle.state.specs.declared.Station.{Station}
use Rattle.state.specs.Slots.{slot_at, complete}
use Rattle.state.specs.Decision.{is_sound}
use Rattle.station.specs.declared.Held.{Held}
use Rattle.station.specs.declared.Held.TheVariants.{Complete, Incomplete}
use Rattle.station.specs.Files.{ReadOutcome, read_gives, store_fits, asked, read_as, read_out, facts_in, told_of}
use Rattle.station.specs.Answers.{told_says}
use Rattle.station.proofs.Calls.{asked_is, if-not, told-outcome, told-zero, told_is}

-- of a slot that is not refused: "12: read .. of an incomplete file"
abbrev pub whole : Result Held Refusal → Result ℕ Refusal
whole (Err n) = Err n
whole (Ok (Incomplete k)) = refuse 12
whole (Ok (Complete k)) = Ok k

-- what is known of the slot that comes back, or of the refusal
abbrev Ready : Station → List ℕ → Result ℕ Refusal → Type 0
Ready s store (Err n) = 0 < n.0
Ready s store (Ok k) = (store_fits s.blocks store ≡ true) × (is_sound s ≡ true) × (k < 32) × (complete (slot_at s k) ≡ true)

-- what a read makes of it
abbrev pub read_after : Station → List ℕ → ℕ → List ℕ → Result ℕ Refusal → ReadOutcome
read_after s store offset buffer (Err n) = read_gives n.0 buffer
read_after s store offset buffer (Ok k) = read_as s store offset buffer (Ok (Complete k))

-- and what is told
abbrev pub told_after : Station → List ℕ → Result ℕ Refusal → Result Facts Refusal
told_after s store (Err n) = Err n
told_after s store (Ok k) = Ok (facts_in s store k)

module _ (s : Station) (store : List ℕ) (k : ℕ) where
  abbrev asks : Result ℕ Refusal
  asks = decided (told_says s store k) (Ok k) refuse

  whole_is : asks ≡ (if store_fits s.blocks store then whole (asked s k) else refuse 1)
  whole_is = rw (asked_is whole s k, if-not (store_fits s.blocks store), if-not (complete (slot_at s k)))

  pub misfit : store_fits s.blocks store ≡ false → refuse 1 ≡ asks
  misfit e = rw e

  pub as-told : {a b : Result Held Refusal} {r : Result ℕ Refusal} → store_fits s.blocks store ≡ true → a ≡ asked s k → a ≡ b → r ≡ whole b → r ≡ asks
  as-told fits told e f = rw (whole_is, fits, ← told, e) f

  counted : Between 1 12 (told_says s store k)
  counted = ((omega arith, omega arith), ((omega arith, omega arith), ((omega arith, omega arith), ((omega arith, omega arith), tt))))

  module _ {r b : Result ℕ Refusal} (told : r ≡ asks) (e : r ≡ b) where
    pub ready : Ready s store b
    ready =
        subst (Ready s store) (sym told ∙ e)
        (decided-cases (Ready s store) (told_says s store k) {done = Ok k} {refused = refuse} (λ none. (told-zero s k store).0 ((told-outcome s k store).zero.1 none))
        (λ n first. omega (arith, (first-between 1 12 first counted).0)))

    pub read-follows : (offset : ℕ) (buffer : List ℕ) → read_after s store offset buffer b ≡ read_out s store k offset buffer
    unfolding read_out read_as
    read-follows offset buffer =
        ap (read_after s store offset buffer) (sym e ∙ told) ∙ decided-map (read_after s store offset buffer) (told_says s store k) (Ok k) refuse
        ∙ rw (asked_is (read_as s store offset buffer) s k, if-not (store_fits s.blocks store), if-not (complete (slot_at s k)))

    pub told-follows : told_after s store b ≡ told_of s store k
    told-follows =
        ap (told_after s store) (sym e ∙ told) ∙ decided-map (told_after s store) (told_says s store k) (Ok k) refuse ∙ sym (told_is s k store)
