-- Every world that a run reaches is sound, and no call on it is answered by 2. Assumes nothing.
use Rattle.std.specs.Prelude.{Ok}
use mathlib.Core.Path.{◌≡◌, sym, ap, ◌∙◌}
use mathlib.Core.Bool.{true}
use mathlib.Core.List.{List, [], ◌∷◌}
use Prim.Native.Nat.{ℕ, ◌*◌, ◌≤◌, ◌<◌}
use native.Mathlib.Omega.{arith}
use borrow.Author.Tests.{eq-eqb, le-leb}
use lib.ListN.{length}
use Rattle.octets.proofs.Tests.{and_both}
use Rattle.frame.specs.declared.Accepted.{Accepted}
use Rattle.frame.specs.Header.{derandomised, zone_of}
use Rattle.frame.proofs.Answers.{good-size, counter-good}
use Rattle.frame.proofs.Sizes.{length-derandomised, length-zone}
use Rattle.state.specs.Sound.{Sized}
use Rattle.state.specs.Decision.{is_sound, are_desks_sound}
use Rattle.state.proofs.Exactly.{sound-true, desks-true}
use Rattle.zone.specs.Walk.{walked}
use Rattle.zone.specs.Contract.{Lent}
use Rattle.zone.proofs.Readings.{start-within}
use Rattle.zone.proofs.Walks.{Kept, walked_keeps}
use Rattle.station.specs.Files.{store_fits}
use Rattle.station.specs.Frame.{channel_at}
use Rattle.station.proofs.Frames.{framed-few}
use Rattle.station.proofs.Calls.{set_up-ready, let_go-ready, frame-never-2, let_go-never-2, read-never-2}
use Rattle.station.proofs.Sorted.{desk-low, desk-watched}
use Rattle.history.specs.Run.{World, Call, answer, after, run, Start, fresh, SoundWorld}
use Rattle.history.specs.Run.Call.{frame, read, let-go}
use Rattle.history.specs.Things.{examined_in}
use Rattle.history.specs.Demands.{EveryRun, NeverUnsound, FewEvents}
use Rattle.history.proofs.Framing.{Taken, Framing, takes-good, framing, taken-list}
use Rattle.history.proofs.Framing.Framing.{refuses, takes}

module _ {w : World} (h : SoundWorld w) where
  pub world-sound : is_sound w.station ≡ true
  world-sound = sound-true h.sized h.sound

  pub world-desks : are_desks_sound w.station w.desks ≡ true
  world-desks = desks-true w.desks h.sized h.sound h.desked h.desks

  pub world_store : store_fits w.station.blocks w.store ≡ true
  world_store =
      let n = w.station.blocks in
      and_both (and_both (le-leb 1 n h.sound.set_up.store) (le-leb n 4096 h.sound.set_up.least)) (eq-eqb _ _ h.stored)

  -- and takes every good frame with a list of the size that is asked for
  pub sound-takes : (f list : List ℕ) {a : Accepted} → examined_in w f ≡ Ok a → 900 ≤ length list → (t : Taken w f list) × (t.frame ≡ a)
  sound-takes f list {a} e room =
      let lent = and_both (and_both (eq-eqb _ _ h.desked) world_store) (le-leb 900 (length list) room) in
      let t = takes-good w f list lent world-sound world-desks e in
      let good : examined_in w f ≡ Ok t.frame = t.good in
      (t, cc)

  module _ {f list : List ℕ} (t : Taken w f list) where
    pub taken-low : t.frame.desk < w.station.channels
    taken-low = desk-low w.station f t.frame t.good

    pub taken-counter : t.frame.counter.0 < 0x1000000
    taken-counter = counter-good _ _ f t.frame t.good

    pub taken-keeps :
        Kept w.station w.desks w.store t.frame.desk
        (walked (channel_at w.station t.frame.desk) w.station w.desks w.store (zone_of (derandomised f)) t.frame)
    taken-keeps =
        let s = w.station in
        let c = channel_at s t.frame.desk in
        let zone = zone_of (derandomised f) in
        let lent : Lent c s t.frame zone w.desks w.store list =
        record {
          sound = h.sound;
          owners = h.sized.owner;
          watched = desk-watched s f t.frame t.good;
          desk = taken-low;
          frame = length-zone (derandomised f) (length-derandomised f (good-size _ _ f t.frame t.good));
          start = start-within _ _ f t.frame t.good;
          desked = h.desked;
          stored = h.stored;
          listed = taken-list t;
        } in
        walked_keeps c s t.frame zone w.desks w.store list h.sized lent h.desks taken-counter

  frame-keeps : (f list : List ℕ) → Framing w f list → SoundWorld (after w (frame f list))
  unfolding after
  frame-keeps f list (refuses n one e) =
      rw e (record { sized = h.sized; sound = h.sound; desks = h.desks; desked = h.desked; stored = h.stored })
  frame-keeps f list (takes t) =
      let k = taken-keeps t in
      rw t.gives
      (record {
        sized = k.sized;
        sound = k.sound;
        desks = k.octets;
        desked = k.desked ∙ h.desked ∙ ap (λ (n : ℕ). 8198 * n) (sym k.channels);
        stored = k.stored ∙ h.stored ∙ ap (λ (n : ℕ). 8190 * n) (sym k.blocks);
      })

  pub after-sound : (c : Call) → SoundWorld (after w c)
  unfolding after
  after-sound (frame f list) = frame-keeps f list (framing w f list)
  after-sound (read k offset buffer) = h
  after-sound (let-go k) = let_go-ready w.station k w.desks w.store h

  pub answered-not-2 : (c : Call) → answer w c ≡ 2 → ⊥
  unfolding answer
  answered-not-2 (frame f list) = frame-never-2 w.station 0 world-sound w.desks w.store list f world-desks
  answered-not-2 (read k offset buffer) = read-never-2 w.station k world-sound w.store offset buffer
  answered-not-2 (let-go k) = let_go-never-2 w.station k world-sound

pub run_sound : {w : World} → SoundWorld w → (cs : List Call) → SoundWorld (run w cs)
unfolding run
run_sound h [] = h
run_sound {w} h (c ∷ cs) = run_sound {w = after w c} (after-sound h c) cs

pub fresh-sound : (x : Start) → SoundWorld (fresh x)
fresh-sound x = set_up-ready x.spacecraft x.channels x.desks x.store x.good

-- "From a set-up answered by 0, with state and memory handed back untouched after every call, no call is answered by 2."
pub every-sound : EveryRun NeverUnsound
every-sound x cs =
    let h = run_sound (fresh-sound x) cs in
    record { sound = h; never-2 = answered-not-2 h }

-- "no frame produces more than 300": of any station, sound or not
pub few-events : (w : World) → Sized w.station → FewEvents w
few-events w z f list = omega (arith, framed-few w.station z w.desks w.store list f)
