-- What is left of a zone is held: from where a walk stopped to all that comes of the octets that were read. Assumes nothing.
use mathlib.Core.Path.{◌≡◌, refl, sym, ap, ap₂, ◌∙◌}
use mathlib.Core.Bool.{Bool, true, false, true≢false}
use mathlib.Core.List.{List, [], ◌∷◌, ◌++◌, flat_map}
use Prim.Native.Nat.{ℕ, ◌+◌, ◌-◌, ◌*◌, ◌≤◌, ◌<◌}
use native.Mathlib.Omega.{arith}
use lib.ListN.{length, take, drop, replicate, length-append, length-drop}
use Rattle.octets.specs.Buffer.{put}
use Rattle.octets.proofs.Lists.{whole-rest}
use Rattle.octets.proofs.Put.{put-nil, length-put}
use Rattle.frame.specs.declared.Accepted.{Accepted}
use Rattle.frame.specs.declared.Channel.{Channel}
use Rattle.state.specs.declared.Station.{Station}
use Rattle.events.specs.Event.{Event, flat}
use Rattle.events.proofs.Flat.{flat-behind}
use Rattle.zone.specs.Zone.{Split, split}
use Rattle.zone.specs.Walk.{judged_all, with_held, with_desk, desk_after, bad_events, walked_from}
use Rattle.zone.specs.Contract.{Lent, Going, TellsWalked, Stops}
use Rattle.zone.specs.Contract.Room.{by-octets}
use Rattle.walk.specs.Contract.{Settling, left_at, Settles}
use Rattle.zone.proofs.Split.{Cuts, split-cuts}
use Rattle.zone.proofs.Split.Cuts.{at-end, at-bad}
use Rattle.zone.proofs.Desks.{blank-held}
use Rattle.zone.proofs.Walks.{from-spent}

-- "A bad header met later in the zone .. drops the rest of the zone."
bad-none : {xs : List ℕ} {sp : Split} → Cuts xs sp → sp.bad ≡ true → sp.left ≡ []
bad-none (at-end b e) f = absurd (true≢false (sym f ∙ b))
bad-none (at-bad b l rest q e) f = l

-- the desk put in order, by the two ends of a walk
module _ {i at n : ℕ} {zone desks : List ℕ} {bad : Bool} where
  pub settles-bad : bad ≡ true → {desked : List ℕ} → desked ≡ put desks (8198 * i) (replicate 8198 0)
      → {m : ℕ} {list listed : List ℕ} → m ≡ n + 1 → listed ≡ put list (3 * n) (3 ∷ 0 ∷ 0 ∷ [])
      → Settles i zone at bad desks list n 0 m desked listed
  unfolding flat flat_map
  settles-bad b w q l = rw b record { holds = refl; counted = q; desked = w; listed = l }

  pub settles-left : bad ≡ false → length zone ≡ 884 → {blanked desked : List ℕ} → blanked ≡ put desks (8198 * i) (replicate 8198 0)
      → desked ≡ put blanked (8198 * i) (take (length zone - at) (drop at zone)) → (list : List ℕ)
      → Settles i zone at bad desks list n (length zone - at) n desked list
  unfolding flat flat_map
  settles-left b size z w list =
      rw b
      record {
        holds = sym (length-drop at zone);
        counted = omega arith;
        desked =
            w ∙ ap₂ (λ (xs ys : List ℕ). put xs (8198 * i) ys) z (whole-rest zone at)
            ∙ blank-held desks i (drop at zone) (omega (arith, length-drop at zone));
        listed = sym (put-nil list (3 * n));
      }

-- the desk is one of eight, and lies in the octets lent
module _ {c : Channel} {s : Station} {a : Accepted} {zone desks store list : List ℕ} (L : Lent c s a zone desks store list) where
  pub desk-low : a.desk < 8
  desk-low = omega (arith, L.desk, L.sound.set_up.few)

  pub desk-fits : 8198 * a.desk + 8198 ≤ length desks
  desk-fits = omega (arith, L.desk, L.desked)

  module _ {from n : ℕ} (l : from ≤ 884) (few : 3 * n ≤ from + 8) where
    pub going : Going c s zone from store list n
    going =
        record {
          sound = L.sound;
          owners = L.owners;
          watched = L.watched;
          within = omega (arith, L.frame);
          short = omega (arith, L.frame);
          stored = L.stored;
          room = by-octets (omega (arith, L.listed, L.frame, length-drop from zone));
        }

    -- there is room for one event more
    room-left : {t : Station} {m at : ℕ} {bad : Bool} {stored listed : List ℕ} → Stops c s zone from store n list t m at bad stored listed
        → 3 * (m + 1) ≤ length listed
    room-left S =
        let j = judged_all c s store (split (drop from zone)).packets in
        omega (
          arith,
          few,
          l,
          L.frame,
          L.listed,
          S.told.events,
          ap length S.told.listed,
          length-put list (3 * n) (flat j.events),
          from-spent c s [] store a [] (drop from zone),
          length-append j.events (bad_events (split (drop from zone)).bad),
          length-drop from zone,
        )

    -- what the desk is put in order with
    pub settling : {t : Station} {m at : ℕ} {bad : Bool} {stored listed : List ℕ} → Stops c s zone from store n list t m at bad stored listed
        → Settling a.desk zone at desks listed m
    settling S = record { low = desk-low; frame = L.frame; within = S.within; desked = desk-fits; room = room-left S }

module _ {c : Channel} {s : Station} {zone : List ℕ} {from : ℕ} {store₀ : List ℕ} {n : ℕ} {list₀ : List ℕ} {t : Station} {m at : ℕ} {bad : Bool}
    {store list : List ℕ} (S : Stops c s zone from store₀ n list₀ t m at bad store list) where
  left_as : (split (drop from zone)).left ≡ left_at bad at zone
  left_as = by bad refl
    where
      by : (b : Bool) → bad ≡ b → (split (drop from zone)).left ≡ left_at b at zone
      by true e = bad-none (split-cuts (drop from zone)) (sym S.spoilt ∙ e)
      by false e = sym (S.left e)

  module _ (a : Accepted) (desks : List ℕ) {desked : List ℕ} where
    ends : (es : List Event) → bad_events (split (drop from zone)).bad ≡ es → (left : List ℕ) → (split (drop from zone)).left ≡ left
        → desked ≡ with_held desks a.desk left
        → {k : ℕ} {listed : List ℕ} → k ≡ m + length es → listed ≡ put list (3 * m) (flat es)
        → TellsWalked (walked_from c s desks store₀ a [] (drop from zone)) n list₀ (with_desk t a.desk (desk_after a (length left))) k desked store listed
    ends es e left k w q l =
        let sp = split (drop from zone) in
        let j = judged_all c s store₀ sp.packets in
        record {
          station = ap₂ (λ (u : Station) (xs : List ℕ). with_desk u a.desk (desk_after a (length xs))) S.told.station (sym k);
          events = q ∙ omega (arith, S.told.events, length-append j.events (bad_events sp.bad), ap length e);
          desked = w ∙ ap (with_held desks a.desk) (sym k);
          stored = S.told.wrote;
          listed =
              l
              ∙ ap₂ (λ (xs : List ℕ) (i : ℕ). put xs (3 * i) (flat es)) S.told.listed S.told.events
              ∙ flat-behind j.events es list₀ n
              ∙ ap (λ (fs : List Event). put list₀ (3 * n) (flat (j.events ++ fs))) (sym e);
        }

    -- all that comes of it
    pub ends-settled : {k held : ℕ} {listed : List ℕ} → Settles a.desk zone at bad desks list m held k desked listed
        → TellsWalked (walked_from c s desks store₀ a [] (drop from zone)) n list₀ (with_desk t a.desk (desk_after a held)) k desked store listed
    ends-settled h =
        rw h.holds
        (ends (bad_events bad) (ap bad_events (sym S.spoilt)) (left_at bad at zone) left_as h.desked h.counted h.listed)
