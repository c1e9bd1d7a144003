-- The frame call, case by case: what is lent, the state, the frame's refusals, what a frame that is not refused is walked with, and how few
-- its events are. Assumes nothing.
use Rattle.std.specs.Prelude.{Result, Ok, Err}
use mathlib.Core.Path.{◌≡◌, refl, sym, ap, subst, ◌∙◌}
use mathlib.Core.Bool.{true, false, not, ◌&&◌}
use mathlib.Core.List.{List}
use Prim.Native.Nat.{ℕ, ◌+◌, ◌*◌, ◌≤◌}
use native.Mathlib.Omega.{arith}
use borrow.Author.Tests.{eqb-true, leb-true, not-false}
use lib.Dec.{leb, eqb}
use lib.ListN.{length, take}
use lib.Seq.{set-get_or}
use Rattle.octets.specs.Each.{each}
use Rattle.octets.specs.Number.{part}
use Rattle.octets.proofs.Lists.{if-cases}
use Rattle.octets.proofs.Tests.{and_left, and_right}
use Rattle.refusals.specs.declared.Refusal.{Refusal}
use Rattle.refusals.specs.Refusals.{refuse}
use Rattle.frame.specs.declared.Accepted.{Accepted}
use Rattle.frame.specs.Header.{derandomised, zone_of}
use Rattle.frame.specs.Refusals.{examined}
use Rattle.frame.proofs.Answers.{good-size}
use Rattle.frame.proofs.Sizes.{length-derandomised, length-zone}
use Rattle.state.specs.declared.Station.{Station}
use Rattle.state.specs.Slots.{empty_desk, desk_at, named}
use Rattle.state.specs.Blocks.{table}
use Rattle.state.specs.Sound.{Sized, DesksSound}
use Rattle.state.specs.Decision.{set_up_sound, is_owner, slots_sound, block_counts, no_twins, desk_holds, desks_held, is_sound, are_desks_sound}
use Rattle.state.proofs.Exactly.{sound-yes, desks-yes}
use Rattle.zone.specs.Walk.{with_desk, Walked, walked}
use Rattle.zone.specs.Contract.{Lent, TellsWalked}
use Rattle.zone.proofs.Readings.{start-within}
use Rattle.zone.proofs.Walks.{walked-few, desk-unfinished}
use Rattle.station.specs.SetUp.{desks_fit}
use Rattle.station.specs.Files.{store_fits}
use Rattle.station.specs.Frame.{FrameOutcome, frame_gives, lent_right, channel_at, admitted, taken, examined_frame, framed}
use Rattle.station.proofs.Sorted.{desk-low, desk-watched}

module _ (s : Station) where
  -- what the test of the desks asks
  pub desks-hold : is_sound s ≡ true → each desk_holds (take s.channels s.desks) ≡ true
  unfolding is_sound
  desks-hold e =
      and_right
      (set_up_sound s.channels (named s) s.blocks && each is_owner (table s) && slots_sound (named s) (block_counts (table s) 0 32) s.slots
      && no_twins s.slots)
      (each desk_holds (take s.channels s.desks)) e

  pub channels-few : Sized s → is_sound s ≡ true → s.channels ≤ 8
  channels-few z e = (sound-yes z e).set_up.few

-- a desk that is given what it has: nothing changes
desk-same : (s : Station) (i : ℕ) → with_desk s i (desk_at s i) ≡ s
desk-same s i = rw (set-get_or s.desks i empty_desk)

module _ (s : Station) (desks store list : List ℕ) where
  -- what refusal 1 looks at
  module _ (l : lent_right s desks store list ≡ true) where
    both : (desks_fit s.channels desks && store_fits s.blocks store) ≡ true
    both = and_left (desks_fit s.channels desks && store_fits s.blocks store) (leb 900 (length list)) l

    pub lent-desks : length desks ≡ 8198 * s.channels
    lent-desks = eqb-true _ _ (and_left (desks_fit s.channels desks) (store_fits s.blocks store) both)

    lent-store : length store ≡ 8190 * s.blocks
    lent-store =
        eqb-true _ _
        (and_right (leb 1 s.blocks && leb s.blocks 4096) (eqb (length store) (8190 * s.blocks))
        (and_right (desks_fit s.channels desks) (store_fits s.blocks store) both))

    lent-list : 900 ≤ length list
    lent-list = leb-true _ _ (and_right (desks_fit s.channels desks && store_fits s.blocks store) (leb 900 (length list)) l)

  module _ (f : List ℕ) where
    pub frame_refused : {n : ℕ} → refuse n ≡ admitted s desks store list f → frame_gives n 0 s desks store list ≡ framed s desks store list f
    unfolding framed examined_frame
    frame_refused e = ap (examined_frame s desks store list f) e

    pub desk-kept : (i : ℕ) {n : ℕ} → refuse n ≡ admitted s desks store list f
        → frame_gives n 0 (with_desk s i (desk_at s i)) desks store list ≡ framed s desks store list f
    desk-kept i {n} e = ap (λ (t : Station). frame_gives n 0 t desks store list) (desk-same s i) ∙ frame_refused e

    -- the refusals, in their order
    pub refused-lent : lent_right s desks store list ≡ false → refuse 1 ≡ admitted s desks store list f
    unfolding admitted
    refused-lent e = rw e

    pub lent-wrong : lent_right s desks store list ≡ false → frame_gives 1 0 s desks store list ≡ framed s desks store list f
    lent-wrong e = frame_refused (refused-lent e)

    module _ (l : lent_right s desks store list ≡ true) where
      pub refused-state : is_sound s ≡ false → refuse 2 ≡ admitted s desks store list f
      unfolding admitted
      refused-state e = rw (l, e)

      pub unsound : is_sound s ≡ false → frame_gives 2 0 s desks store list ≡ framed s desks store list f
      unsound e = frame_refused (refused-state e)

      module _ (e : is_sound s ≡ true) where
        pub refused-desks : desks_held 0 (take s.channels s.desks) desks ≡ false → refuse 2 ≡ admitted s desks store list f
        unfolding admitted are_desks_sound
        refused-desks d = rw (l, e, d)

        pub desks-unsound : desks_held 0 (take s.channels s.desks) desks ≡ false
            → frame_gives 2 0 s desks store list ≡ framed s desks store list f
        desks-unsound d = frame_refused (refused-desks d)

        pub as-examined : desks_held 0 (take s.channels s.desks) desks ≡ true
            → examined s.spacecraft (take s.channels s.watched) f ≡ admitted s desks store list f
        unfolding admitted are_desks_sound
        as-examined d = rw (l, e, d)

-- what is known of a frame that is not refused
pub record Admits (s : Station) (desks store list f : List ℕ) (a : Accepted) : Type 0 where
  pub lent : lent_right s desks store list ≡ true
  pub sound : is_sound s ≡ true
  pub orderly : are_desks_sound s desks ≡ true
  pub good : examined s.spacecraft (take s.channels s.watched) f ≡ Ok a

abbrev Told : Station → List ℕ → List ℕ → List ℕ → List ℕ → Result Accepted Refusal → Type 0
Told s desks store list f (Err n) = Unit
Told s desks store list f (Ok a) = Admits s desks store list f a

module _ (s : Station) (desks store list f : List ℕ) where
  told : Told s desks store list f (admitted s desks store list f)
  unfolding admitted
  told =
      if-cases (Told s desks store list f) (not (lent_right s desks store list)) (λ _. tt)
      (λ l. if-cases (Told s desks store list f) (not (is_sound s && are_desks_sound s desks)) (λ _. tt)
      (λ b.
      let both : (is_sound s && are_desks_sound s desks) ≡ true = not-false _ b in
      by (not-false _ l) (and_left (is_sound s) (are_desks_sound s desks) both) (and_right (is_sound s) (are_desks_sound s desks) both) _ refl))
    where
      by : lent_right s desks store list ≡ true → is_sound s ≡ true → are_desks_sound s desks ≡ true
          → (x : Result Accepted Refusal) → examined s.spacecraft (take s.channels s.watched) f ≡ x → Told s desks store list f x
      by l h d (Err n) e = tt
      by l h d (Ok a) e = record { lent = l; sound = h; orderly = d; good = e }

  pub admits : {x : Result Accepted Refusal} {a : Accepted} → x ≡ admitted s desks store list f → x ≡ Ok a → Admits s desks store list f a
  admits e g = subst (Told s desks store list f) (sym e ∙ g) told

-- the zone, where the scratch octets are the derandomised frame
pub zone-here : (f : List ℕ) {plain : List ℕ} → plain ≡ derandomised f → part 8 884 plain ≡ zone_of (derandomised f)
unfolding zone_of
zone-here f p = ap (part 8 884) p

module _ {s : Station} {desks store list f : List ℕ} {a : Accepted} (z : Sized s) (A : Admits s desks store list f a) where
  zone-size : length (zone_of (derandomised f)) ≡ 884
  zone-size = length-zone (derandomised f) (length-derandomised f (good-size _ _ f a A.good))

  desks-on : DesksSound s desks
  desks-on = desks-yes desks z (sound-yes z A.sound) (lent-desks s desks store list A.lent) A.orderly

  -- what the zone is walked with
  pub walk-lent : {zone : List ℕ} → zone ≡ zone_of (derandomised f)
      → Lent (channel_at s a.desk) s a zone desks store list × DesksSound s desks
  walk-lent here = (
    record {
      sound = sound-yes z A.sound;
      owners = z.owner;
      watched = desk-watched s f a A.good;
      desk = desk-low s f a A.good;
      frame = ap length here ∙ zone-size;
      start = start-within _ _ f a A.good;
      desked = lent-desks s desks store list A.lent;
      stored = lent-store s desks store list A.lent;
      listed = lent-list s desks store list A.lent;
    },
    desks-on,
  )

  -- how few its events are
  walk-few : length (walked (channel_at s a.desk) s desks store (zone_of (derandomised f)) a).events ≤ 151
  walk-few =
      let held = desk-unfinished (sound-yes z A.sound) desks (lent-desks s desks store list A.lent) a.desk (desk-low s f a A.good) desks-on in
      walked-few (channel_at s a.desk) s z desks store a (zone_of (derandomised f)) zone-size held

-- a frame that is walked: what comes out of the walk is what comes out of the call
pub walk-taken : (s : Station) {w : Walked} {list : List ℕ} {t : Station} {m : ℕ} {desks₁ store₁ list₁ : List ℕ}
    → TellsWalked w 0 list t m desks₁ store₁ list₁ → frame_gives 0 m t desks₁ store₁ list₁ ≡ taken s list w
walk-taken s {w} h =
    let k : length w.events ≡ 0 + length w.events = omega arith in
    rw (h.station, h.events, h.desked, h.stored, h.listed, ← k)

pub frame-taken : (s : Station) (desks store list f : List ℕ) {a : Accepted} {zone : List ℕ} {o : FrameOutcome} → Ok a ≡ admitted s desks store list f
    → zone ≡ zone_of (derandomised f) → o ≡ taken s list (walked (channel_at s a.desk) s desks store zone a) → o ≡ framed s desks store list f
unfolding framed examined_frame
frame-taken s desks store list f e here q = rw (← e, ← here) q

-- "no frame produces more than 300": 151 is the greatest number
abbrev Few : FrameOutcome → Type 0
Few o = o.events ≤ 151

module _ (s : Station) (z : Sized s) (desks store list f : List ℕ) where
  pub framed-few : (framed s desks store list f).events ≤ 151
  unfolding framed examined_frame
  framed-few = by (admitted s desks store list f) refl
    where
      by : (x : Result Accepted Refusal) → x ≡ admitted s desks store list f → Few (examined_frame s desks store list f x)
      by (Err n) e = omega arith
      by (Ok a) e = walk-few z (admits s desks store list f e refl)

  pub few-told : {n k : ℕ} {s₁ : Station} {desks₁ store₁ list₁ : List ℕ}
      → frame_gives n k s₁ desks₁ store₁ list₁ ≡ framed s desks store list f → k ≤ 300
  few-told e = omega (arith, ap (λ (o : FrameOutcome). o.events) e, framed-few)
