-- What comes of a call, for the whole buffers and as text. Assumes nothing.
use Rattle.std.specs.Prelude.{Result, Ok}
use mathlib.Core.Path.{◌≡◌, refl, sym, ap, subst, ◌∙◌}
use mathlib.Core.List.{List, [], ◌∷◌, ◌++◌}
use Prim.Native.Nat.{ℕ, zero, suc, ◌-◌, ◌≤◌}
use native.Mathlib.Nat.{sub-zero, le_of_suc-le-suc}
use native.Mathlib.Omega.{arith}
use lib.ListN.{take, drop, replicate, take-append-drop}
use Rattle.refusals.specs.declared.Refusal.{Refusal}
use Rattle.refusals.specs.Refusals.{refuse}
use Rattle.text.specs.Pieces.{Written}
use Rattle.lines.specs.Lines.{answer_line, frame_lines, read_line, told_line}
use Rattle.lines.proofs.Telling.{untold}
use Rattle.facts.specs.declared.Facts.{Facts}
use Rattle.state.specs.declared.Station.{Station}
use Rattle.station.specs.SetUp.{SetUpOutcome, set_up_gives, set_up}
use Rattle.station.specs.Frame.{FrameOutcome, frame_gives, framed}
use Rattle.station.specs.Files.{ReadOutcome, read_gives, read_out, told_of}
use Rattle.station.specs.Handed.{WentOn}
use Rattle.script.specs.declared.Command.{Command}
use Rattle.script.specs.declared.Run.{Run}
use Rattle.script.specs.Memory.{Memory, memory}
use Rattle.drive.specs.Calls.{with, set_up_by, was_set_up, frame_by, took_frame, read_by, told_by}
use Rattle.drive.specs.Printed.{frame_printed, read_printed, told_printed}

-- another state, and as much lent as before
abbrev holding : Station → Run → List ℕ → List ℕ → Memory
holding s w desks store = record { station = s; desks = desks; store = store; desks_lent = w.desks; store_lent = w.store }

-- set-up of the octets lent, `&mut desks[0..n]` and `&store[0..m]`
module _ (x : Command) (w : Run) (channels desks store : List ℕ) {answer : ℕ} {s : Station} {part : List ℕ}
    (e : set_up_gives answer s part ≡ set_up x.a channels (take (w.desks - 0) desks) (take (w.store - 0) store)) where
  given : set_up_gives answer s part ≡ set_up_by x channels (memory w desks store)
  given = rw (sub-zero w.desks, sub-zero w.store) at e

  pub set-up-answer : answer ≡ (set_up_by x channels (memory w desks store)).answer
  set-up-answer = ap (λ (o : SetUpOutcome). o.answer) given

  pub set-up-done : holding s w (part ++ drop (w.desks - 0) desks) store
      ≡ was_set_up x channels (memory w desks store)
  unfolding was_set_up
  set-up-done =
      rw (sub-zero w.desks) (ap (λ (st : List ℕ). holding s w (part ++ drop w.desks desks) st) (sym (take-append-drop w.store store))
      ∙ ap (λ (o : SetUpOutcome). with (memory w desks store) o.station o.desks (take w.store store)) given)

-- the first n of m zeros
take-zeros : (n m : ℕ) → n ≤ m → take {A = ℕ} n (replicate m 0) ≡ replicate n 0
take-zeros zero m h = refl
take-zeros (suc n) zero h = absurd (omega (arith, h))
take-zeros (suc n) (suc m) h = ap (λ (xs : List ℕ). 0 ∷ xs) (take-zeros n m (le_of_suc-le-suc h))

-- a frame on the octets lent, with `&mut list[0..b]` of the list
module _ (x : Command) (w : Run) (unit desks store : List ℕ) (few : x.b ≤ 1200) where
  abbrev call_given : FrameOutcome
  call_given = framed w.station (take (w.desks - 0) desks) (take (w.store - 0) store) (take (x.b - 0) (replicate 1200 0)) unit

  pub frame-given : call_given ≡ frame_by x unit (memory w desks store)
  frame-given = rw (sub-zero w.desks, sub-zero w.store, sub-zero x.b, take-zeros x.b 1200 few)

  pub frame-done : {s : Station} {desks₁ store₁ : List ℕ} → WentOn call_given s desks₁ store₁
      → holding s w (desks₁ ++ drop (w.desks - 0) desks) (store₁ ++ drop (w.store - 0) store)
      ≡ took_frame x unit (memory w desks store)
  unfolding took_frame
  frame-done {s} {desks₁} {store₁} e =
      let all : with (memory w desks store) s desks₁ store₁ ≡ took_frame x unit (memory w desks store) = rw (e.0, e.1, e.2) (ap (λ (o : FrameOutcome). with (memory w desks store) o.station o.desks o.store) frame-given) in
      rw (sub-zero w.desks, sub-zero w.store) all

-- a read from the octets lent, into `&mut buffer[0..c]`
pub read-given : (x : Command) (w : Run) (desks store : List ℕ) → x.c ≤ 16384
    → read_out w.station (take (w.store - 0) store) x.b x.d (take (x.c - 0) (replicate 16384 0)) ≡ read_by x (memory w desks store)
read-given x w desks store few = rw (sub-zero w.store, sub-zero x.c, take-zeros x.c 16384 few)

-- a file told of, from the octets lent
pub told-given : (x : Command) (w : Run) (desks store : List ℕ) → told_of w.station (take (w.store - 0) store) x.b ≡ told_by x (memory w desks store)
told-given x w desks store = rw (sub-zero w.store)

-- the text of a frame call that gives an outcome
pub frame-told : {n k : ℕ} {s₁ : Station} {desks₁ store₁ list₁ : List ℕ} {o : FrameOutcome} → frame_gives n k s₁ desks₁ store₁ list₁ ≡ o
    → frame_lines n k list₁ ≡ frame_printed o
frame-told e = ap frame_printed e

-- the same of a read
pub read_told : {n : ℕ} {buffer : List ℕ} {o : ReadOutcome} {before after : List ℕ} {end : ℕ} → read_gives n buffer ≡ o
    → Written before 0 (read_line n buffer) after end → Written before 0 (read_printed o) after end
read_told {before = before} {after = after} {end = end} e w = subst (λ (o : ReadOutcome). Written before 0 (read_printed o) after end) e w

-- and of what is told of a file
module _ {t : Result Facts Refusal} {before after : List ℕ} {end : ℕ} where
  pub refused-told : {n : ℕ} → t ≡ refuse n → Written before 0 (answer_line 0x49 n) after end → Written before 0 (told_printed t) after end
  refused-told {n} e w = rw e (rw (untold n) at w)

  pub known-told : {f : Facts} → t ≡ Ok f → Written before 0 (told_line 0 (f.channel.0 ∷ f.application.0 ∷ f.counter ∷ f.bits ∷ [])) after end
      → Written before 0 (told_printed t) after end
  known-told e w = rw e w
