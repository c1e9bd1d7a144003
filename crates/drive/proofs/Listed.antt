-- A frame call, as its contract has it: "no frame produces more than 300" events, and their numbers are in the list. Assumes nothing.
use mathlib.Core.Path.{◌≡◌, refl, ap}
use mathlib.Core.Bool.{Bool, true, false, ◌&&◌}
use mathlib.Core.List.{List}
use Prim.Native.Nat.{ℕ, ◌*◌, ◌≤◌}
use native.Mathlib.Omega.{arith}
use borrow.Author.Tests.{leb-true}
use lib.Dec.{leb}
use lib.ListN.{length}
use Rattle.octets.proofs.Tests.{and_right}
use Rattle.state.specs.declared.Station.{Station}
use Rattle.state.specs.Sound.{Sized}
use Rattle.station.specs.SetUp.{desks_fit}
use Rattle.station.specs.Files.{store_fits}
use Rattle.station.specs.Frame.{FrameOutcome, frame_gives, lent_right, framed}
use Rattle.station.proofs.Frames.{few-told, lent-wrong}

module _ (s : Station) (z : Sized s) (desks store list f : List ℕ) {n k : ℕ} {s₁ : Station} {desks₁ store₁ list₁ : List ℕ}
    (e : frame_gives n k s₁ desks₁ store₁ list₁ ≡ framed s desks store list f) where
  -- "for a frame, fewer than 900 event numbers" are refused
  listed : (b : Bool) → lent_right s desks store list ≡ b → 3 * k ≤ length list
  listed true l =
      let long : 900 ≤ length list = leb-true _ _ (and_right (desks_fit s.channels desks && store_fits s.blocks store) (leb 900 (length list)) l) in
      omega (arith, few-told s z desks store list f e)
  listed false l =
      omega (arith, ap (λ (o : FrameOutcome). o.events) e, ap (λ (o : FrameOutcome). o.events) (lent-wrong s desks store list f l))

  pub events-listed : (k ≤ 300) × (3 * k ≤ length list)
  events-listed = (few-told s z desks store list f e, listed (lent_right s desks store list) refl)
