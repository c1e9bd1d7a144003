-- Every call, on any octets and any state, is answered by one of its numbers; and where that is not 0, nothing changes. Assumes nothing.
use mathlib.Core.Path.{◌≡◌, refl, sym, ap}
use mathlib.Core.Bool.{Bool, true, false, not, ◌||◌, false≢true}
use mathlib.Core.List.{List}
use Prim.Native.Nat.{ℕ}
use native.Mathlib.Decide.{ℕ_discrete}
use Rattle.state.specs.Sound.{Sized}
use Rattle.state.specs.Decision.{good_channels, is_sound, are_desks_sound}
use Rattle.state.specs.Plainly.{Stray}
use Rattle.state.proofs.Exactly.{sound-yes}
use Rattle.state.proofs.Plainly.{stray-refused}
use Rattle.octets.specs.Reasons.{Reason}
use Rattle.station.specs.declared.LetGo.{LetGo}
use Rattle.station.specs.Files.{ReadOutcome, told_values}
use Rattle.station.specs.Frame.{FrameOutcome, lent_right}
use Rattle.station.proofs.Decided.{Outcome}
use Rattle.station.proofs.Frames.{lent-desks, lent-wrong, unsound, desks-unsound}
use Rattle.station.proofs.Calls.{frame-outcome, let_go-outcome, read-outcome, told-outcome, set_up-outcome, set_up-ten}
use Rattle.history.specs.Run.{World, Call, answer, after}
use Rattle.history.specs.Run.Call.{frame, read, let-go}
use Rattle.history.specs.Calls.{ByNumber, result_of, event_count, reported, Answers, TellsByNumber, ZerosAfter, SetsUp}

by_number : {A : Type 0} {answer : A → ℕ} {rs : List Reason} {d : A} {f : ℕ → A} {r : A} → Outcome answer rs d f r → ByNumber rs (answer r)
by_number {answer = answer} {r = r} o =
    record {
      one_of = o.one_of;
      given = λ n. (o.refused n).1;
      zero = λ none. elim (ℕ_discrete (answer r) 0) [ yes e ↦ e | no n ↦ absurd (none (answer r) (o.refused n).1) ];
    }

-- "Whatever octets come off the dish, and whatever state we hand back, every call .. answers by the rules paper's numbers. A refused
-- call changes no octet of desks or store, no slot and no event."
module _ (w : World) where
  pub every-answer : (c : Call) → Answers w c
  unfolding answer after result_of event_count reported
  every-answer (frame f list) =
      let o = frame-outcome w.station w.desks w.store list f in
      record {
        number = by_number o;
        lowest = o.lowest refl;
        refused =
            λ h.
            record {
              world = ap (λ (r : FrameOutcome). record { station = r.station; desks = r.desks; store = r.store }) (o.refused h).0;
              lent = ap (λ (r : FrameOutcome). r.list) (o.refused h).0;
              events = ap (λ (r : FrameOutcome). r.events) (o.refused h).0;
              report = refl;
            };
      }
  every-answer (read k offset buffer) =
      let o = read-outcome w.station k w.store offset buffer in
      record {
        number = by_number o;
        lowest = o.lowest refl;
        refused = λ h. record { world = refl; lent = ap (λ (r : ReadOutcome). r.buffer) (o.refused h).0; events = refl; report = refl };
      }
  every-answer (let-go k) =
      let o = let_go-outcome w.station k in
      record {
        number = by_number o;
        lowest = o.lowest refl;
        refused =
            λ h.
            record {
              world = λ i. record { station = ((o.refused h).0 i).station; desks = w.desks; store = w.store };
              lent = refl;
              events = refl;
              report = ap (λ (r : LetGo). r.complete) (o.refused h).0;
            };
      }

pub every-telling : (w : World) (k : ℕ) → TellsByNumber w k
every-telling w k =
    let o = told-outcome w.station k w.store in
    record { number = by_number o; lowest = o.lowest refl; refused = λ h. ap told_values (o.refused h).0 }

module _ (w : World) (f list : List ℕ) where
  stray-by : Sized w.station → Stray w.station w.desks → (answer w (frame f list) ≡ 1 → ⊥)
      → (lent sound desks : Bool) → lent_right w.station w.desks w.store list ≡ lent → is_sound w.station ≡ sound
      → are_desks_sound w.station w.desks ≡ desks → answer w (frame f list) ≡ 2
  unfolding answer are_desks_sound
  stray-by z y other false b c l e d =
      absurd (other (ap (λ (r : FrameOutcome). r.answer) (sym (lent-wrong w.station w.desks w.store list f l))))
  stray-by z y other true false c l e d =
      ap (λ (r : FrameOutcome). r.answer) (sym (unsound w.station w.desks w.store list f l e))
  stray-by z y other true true false l e d =
      ap (λ (r : FrameOutcome). r.answer) (sym (desks-unsound w.station w.desks w.store list f l e d))
  stray-by z y other true true true l e d =
      absurd (stray-refused z (sound-yes z e) (lent-desks w.station w.desks w.store list l) y d)

  pub zeros-after : ZerosAfter w f list
  zeros-after =
      let s = w.station in
      record {
        refused =
            λ z y other. stray-by z y other (lent_right s w.desks w.store list) (is_sound s) (are_desks_sound s w.desks) refl refl refl;
      }

not_good : (b : Bool) → (not b || false) ≡ true → b ≡ false
not_good true e = absurd (false≢true e)
not_good false e = refl

pub every-set-up : (craft : ℕ) (channels desks store : List ℕ) → SetsUp craft channels desks store
every-set-up craft channels desks store =
    let o = set_up-outcome craft channels desks store in
    record {
      number = by_number o;
      ten = λ e. set_up-ten craft channels desks store (not_good (good_channels channels) e);
      refused = λ n. (o.refused n).0;
    }
