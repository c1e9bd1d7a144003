-- A packet gives three events at most, and one for each three of its octets at most: so the octets of a frame bound its events. Assumes nothing.
use mathlib.Core.List.{List, ◌∷◌}
use Prim.Native.Nat.{ℕ, ◌*◌, ◌≤◌}
use native.Mathlib.Omega.{arith}
use lib.Dec.{eqb}
use lib.ListN.{length}
use Rattle.octets.proofs.Lists.{if-cases}
use Rattle.frame.specs.declared.Channel.{Channel}
use Rattle.packet.specs.declared.Packet.{Packet}
use Rattle.state.specs.declared.Station.{Station}
use Rattle.events.specs.Event.{Event, at}
use Rattle.judge.specs.Judge.{Judged, judged}
use Rattle.judge.specs.Contract.{Whole}
use Rattle.judge.proofs.Parts.{open_events, whole-smallest, whole-checked, Begins, Judges, judges-as}
use Rattle.judge.proofs.Parts.Begins.{wrong-shape, no_slot, no_room, opens_at}
use Rattle.judge.proofs.Parts.Judges.{fill, other, damaged, begins-new, begins-over, stray, goes_onward, breaks-off}

pub opens-few : (h : Packet) (k : ℕ) → length (open_events h k) ≤ 2
opens-few h k =
    if-cases (λ (es : List Event). length (at 10 h.application.0 k ∷ es) ≤ 2) (eqb h.flags 3) (λ e. omega arith) (λ e. omega arith)

begins-few : {c : Channel} {s : Station} {store : List ℕ} {h : Packet} {d : List ℕ} {j : Judged} → Begins c s store h d j → length j.events ≤ 2
begins-few (wrong-shape e) = omega arith
begins-few (no_slot e f) = omega arith
begins-few (no_room e f l) = omega arith
begins-few {h} (opens_at {k} e f l) = opens-few h k

module _ {c : Channel} {s : Station} {store p : List ℕ} where
  judges-three : {j : Judged} → Judges c s store p j → length j.events ≤ 3
  judges-three (fill l) = omega arith
  judges-three (other l m) = omega arith
  judges-three (damaged l e) = omega arith
  judges-three (begins-new u e f b) = omega (arith, begins-few b)
  judges-three (begins-over u e f b) = omega (arith, begins-few b)
  judges-three (stray u e f) = omega arith
  judges-three (goes_onward u e f g) = omega arith
  judges-three (breaks-off u e f g) = omega arith

  judges-few : Whole p → {j : Judged} → Judges c s store p j → 3 * length j.events ≤ length p
  judges-few w (fill l) = omega arith
  judges-few w (other l m) = omega (arith, whole-smallest w)
  judges-few w (damaged l e) = omega (arith, whole-smallest w)
  judges-few w (begins-new u e f b) = omega (arith, whole-checked w u.file, begins-few b)
  judges-few w (begins-over u e f b) = omega (arith, whole-checked w u.file, begins-few b)
  judges-few w (stray u e f) = omega (arith, whole-smallest w)
  judges-few w (goes_onward u e f g) = omega (arith, whole-smallest w)
  judges-few w (breaks-off u e f g) = omega (arith, whole-smallest w)

module _ (c : Channel) (s : Station) (store p : List ℕ) where
  pub three : length (judged c s store p).events ≤ 3
  three = judges-three (judges-as c s store p)

  pub few : Whole p → 3 * length (judged c s store p).events ≤ length p
  few w = judges-few w (judges-as c s store p)
