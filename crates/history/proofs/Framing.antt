-- What becomes of a frame call: it is refused and nothing changes, or it is taken, and what is known then. Assumes nothing.
use Rattle.std.specs.Prelude.{Result, Ok, Err}
use mathlib.Core.Path.{◌≡◌, refl}
use mathlib.Core.Bool.{Bool, true, false, ◌&&◌}
use mathlib.Core.List.{List}
use Prim.Native.Nat.{ℕ, ◌≤◌}
use native.Mathlib.Omega.{arith}
use borrow.Author.Tests.{leb-true}
use lib.Dec.{leb}
use lib.ListN.{length, take}
use Rattle.frame.specs.declared.Accepted.{Accepted}
use Rattle.frame.specs.Header.{derandomised, zone_of}
use Rattle.frame.proofs.Answers.{refusal-number}
use Rattle.state.specs.declared.Station.{Station}
use Rattle.state.specs.Decision.{is_sound, are_desks_sound}
use Rattle.octets.proofs.Tests.{and_right}
use Rattle.refusals.specs.declared.Refusal.{Refusal}
use Rattle.zone.specs.Walk.{walked}
use Rattle.station.specs.SetUp.{desks_fit}
use Rattle.station.specs.Files.{store_fits}
use Rattle.station.specs.Frame.{frame_gives, lent_right, channel_at, admitted, taken, examined_frame, framed}
use Rattle.history.specs.Run.{World, frame_in}
use Rattle.history.specs.Things.{examined_in}

-- a frame call that is taken
pub record Taken (w : World) (f list : List ℕ) : Type 0 where
  pub frame : Accepted
  pub lent : lent_right w.station w.desks w.store list ≡ true
  pub sound : is_sound w.station ≡ true
  pub desks-sound : are_desks_sound w.station w.desks ≡ true
  pub good : examined_in w f ≡ Ok frame
  pub gives :
      frame_in w f list
      ≡ taken w.station list
      (walked (channel_at w.station frame.desk) w.station w.desks w.store (zone_of (derandomised f)) frame)

pub data Framing (w : World) (f list : List ℕ) : Type 0 where
  refuses : (n : ℕ) → 1 ≤ n → frame_in w f list ≡ frame_gives n 0 w.station w.desks w.store list → Framing w f list
  takes : Taken w f list → Framing w f list

-- what is enough for a frame to be taken
pub takes-good : (w : World) (f list : List ℕ) {a : Accepted} → lent_right w.station w.desks w.store list ≡ true → is_sound w.station ≡ true
    → are_desks_sound w.station w.desks ≡ true → examined_in w f ≡ Ok a → Taken w f list
unfolding framed admitted examined_frame
takes-good w f list {a} l h d e =
    record { frame = a; lent = l; sound = h; desks-sound = d; good = e; gives = rw (l, h, d, e) }

pub framing : (w : World) (f list : List ℕ) → Framing w f list
unfolding framed admitted examined_frame
framing w f list = lends (lent_right s w.desks w.store list) refl
  where
    s : Station
    s = w.station

    by : lent_right s w.desks w.store list ≡ true → is_sound s ≡ true → are_desks_sound s w.desks ≡ true
        → (e : Result Accepted Refusal) → examined_in w f ≡ e → Framing w f list
    by l h d (Err n) e =
        let m = refusal-number s.spacecraft (take s.channels s.watched) f n.0 e in
        refuses n.0 (omega arith) (rw (l, h, d, e))
    by l h d (Ok a) e =
        takes (takes-good w f list l h d e)

    sounds : lent_right s w.desks w.store list ≡ true → (b c : Bool) → is_sound s ≡ b → are_desks_sound s w.desks ≡ c → Framing w f list
    sounds l true true p q = by l p q (examined_in w f) refl
    sounds l true false p q = refuses 2 (omega arith) (rw (l, p, q))
    sounds l false c p q = refuses 2 (omega arith) (rw (l, p))

    lends : (b : Bool) → lent_right s w.desks w.store list ≡ b → Framing w f list
    lends true e = sounds e (is_sound s) (are_desks_sound s w.desks) refl refl
    lends false e = refuses 1 (omega arith) (rw e)

pub taken-list : {w : World} {f list : List ℕ} → Taken w f list → 900 ≤ length list
taken-list {w} {f} {list} t =
    let s = w.station in
    leb-true 900 (length list) (and_right (desks_fit s.channels w.desks && store_fits s.blocks w.store) (leb 900 (length list)) t.lent)
