-- Every channel of every run is heard as a row of contiguous stretches. Assumes nothing.
use mathlib.Core.Path.{◌≡◌, refl, sym, ap, ap₂, subst, ◌∙◌}
use mathlib.Core.Bool.{Bool, ◌&&◌}
use mathlib.Core.List.{List, [], ◌∷◌, ◌++◌, append_assoc, append-nil, map}
use Prim.Native.Nat.{ℕ, ◌*◌, ◌/◌, ◌≤◌, ◌<◌}
use native.Mathlib.Decide.{ℕ_discrete}
use native.Mathlib.Omega.{arith}
use borrow.Author.Tests.{eq-eqb, ne_eqb}
use lib.Dec.{eqb}
use lib.ListN.{length, take, drop, get_or, get_or-map}
use lib.Seq.{get_or-take, take-take}
use Rattle.octets.specs.Number.{part}
use Rattle.octets.proofs.Lists.{if-true, if-false}
use Rattle.octets.proofs.Tests.{and_both}
use Rattle.frame.specs.declared.Channel.{Channel}
use Rattle.state.specs.declared.Desk.{Desk}
use Rattle.state.specs.declared.Station.{Station}
use Rattle.state.specs.Slots.{desk_at, empty_desk, number, named}
use Rattle.state.specs.Sound.{desk_octets}
use Rattle.room.proofs.Keeps.{let_go-refiles}
use Rattle.judge.proofs.Keeps.{stays-refiled}
use Rattle.zone.specs.Walk.{held_at, reading_of, desk_after}
use Rattle.station.specs.declared.LetGo.{LetGo}
use Rattle.station.specs.SetUp.{SetUpOutcome, channel_of}
use Rattle.station.specs.Frame.{FrameOutcome, channel_at}
use Rattle.station.proofs.Fresh.{fresh-desk}
use Rattle.station.proofs.Calls.{set_up-outcome, let_go-outcome}
use Rattle.history.specs.Run as runs
use Rattle.history.specs.Run.{World, Call, answer, run, Start, fresh, SoundWorld}
use Rattle.history.specs.Run.Call.{frame, read, let-go}
use Rattle.history.specs.Things.{Thing, split_in, things, all_things}
use Rattle.history.specs.Things.Thing.{packet, left, gone}
use Rattle.history.specs.Sorted.{header_channel}
use Rattle.history.specs.Openings.{zone_in, OnDesk, on_desk, packet_in, packets_under}
use Rattle.history.specs.Heard.{unheard, Listened, accepted_in, accepted, EveryChannelHeard}
use Rattle.history.specs.Heard.Listened.{silence, one_more}
use Rattle.history.proofs.Framing.{Taken}
use Rattle.history.proofs.Refused.{every-answer}
use Rattle.history.proofs.Sound.{taken-low, taken-keeps, after-sound, fresh-sound}
use Rattle.history.proofs.Moments.{things-refused, things-read, things-let-go, things-taken, frame-taken, taken-zero}
use Rattle.history.proofs.Sorted.{desk-sorted}
use Rattle.history.proofs.Once.{closed}
use Rattle.history.proofs.Openings.{under_same, frame-opens, desk-after}
use Rattle.history.proofs.Heard.{stretches, listened-once}

under-append : (c : Channel) (ts us : List Thing) → packets_under c (ts ++ us) ≡ packets_under c ts ++ packets_under c us
unfolding packets_under
under-append c [] us = refl
under-append c (t ∷ ts) us =
    ap (λ (r : List (List ℕ)). packet_in c t ++ r) (under-append c ts us) ∙ sym (append_assoc (packet_in c t) (packets_under c ts) (packets_under c us))

-- a frame of another channel has no packets of it
under-other : (c d : Channel) (ps : List (List ℕ)) (i : ℕ) (k : Desk) → (d.0 ≡ c.0 → ⊥) → packets_under c (map (packet d) ps ++ (left i k ∷ [])) ≡ []
unfolding packets_under
under-other c d [] i k n = refl
under-other c d (p ∷ ps) i k n =
    ap₂ ◌++◌ (if-false (p ∷ []) [] (ne_eqb d.0 c.0 n)) (under-other c d ps i k n)

-- nothing changes at a desk at which nothing happens
nothing-new : (fs ps gs qs : List (List ℕ)) {d e : OnDesk} → e ≡ d → gs ≡ [] → qs ≡ [] → Listened fs ps d → Listened (fs ++ gs) (ps ++ qs) e
nothing-new fs ps gs qs same a b l = rw (a, b, append-nil fs, append-nil ps) (subst (Listened fs ps) (sym same) l)

module _ {w : World} (h : SoundWorld w) {f list : List ℕ} (t : Taken w f list) where
  -- a frame at its own desk
  frame_here : (fs ps : List (List ℕ)) → Listened fs ps (on_desk w t.frame.desk)
      → Listened (fs ++ (f ∷ [])) (ps ++ (split_in w f t.frame).packets) (on_desk (runs.after w (frame f list)) t.frame.desk)
  frame_here fs ps l =
      let sp = split_in w f t.frame in
      subst (Listened (fs ++ (f ∷ [])) (ps ++ sp.packets)) (sym (desk-after h t))
      (one_more sp.packets l (frame-opens h t) (closed (reading_of w.station w.desks (zone_in f) t.frame).octets))

  -- and at another
  frame-elsewhere : (i : ℕ) → i < w.station.channels → (i ≡ t.frame.desk → ⊥) → on_desk (runs.after w (frame f list)) i ≡ on_desk w i
  unfolding runs.after
  frame-elsewhere i low other =
      let s = w.station in
      let k = (taken-keeps h t).others i other in
      let n = (desk_at s i).held in
      let few : n ≤ 8198 = omega (arith, (h.sound.desks i low).few) in
      let d : desk_at (runs.after w (frame f list)).station i ≡ desk_at s i = ap (λ (r : FrameOutcome). desk_at r.station i) t.gives ∙ k.0 in
      let o : desk_octets i (runs.after w (frame f list)).desks ≡ desk_octets i w.desks =
      ap (λ (r : FrameOutcome). desk_octets i r.desks) t.gives ∙ k.1 in
      let octets : held_at (runs.after w (frame f list)).station (runs.after w (frame f list)).desks i ≡ held_at s w.desks i =
      ap (λ (x : Desk). part (8198 * i) x.held (runs.after w (frame f list)).desks) d
      ∙ sym (take-take n 8198 (drop (8198 * i) (runs.after w (frame f list)).desks) few) ∙ ap (take n) o
      ∙ take-take n 8198 (drop (8198 * i) w.desks) few in
      λ j. record { held = octets j; seen = (d j).seen; last = (d j).counter.0 }

-- what a call keeps: the channels watched
record Watches (w v : World) : Type 0 where
  watched : v.station.watched ≡ w.station.watched
  channels : v.station.channels ≡ w.station.channels

-- a call at a desk: nothing happens there, or one more frame is heard
abbrev HeardOn : World → Call → Channel → ℕ → Type 0
HeardOn w call c i =
    (fs ps : List (List ℕ)) → Listened fs ps (on_desk w i)
    → Listened (fs ++ accepted_in w call c) (ps ++ packets_under c (things w call)) (on_desk (runs.after w call) i)

-- a call that changes neither desks nor their octets, and brings no packet
quiet : (w v : World) (i : ℕ) (c : Channel) (fs ps gs : List (List ℕ)) (ts : List Thing) → v.station.desks ≡ w.station.desks → v.desks ≡ w.desks
    → gs ≡ [] → packets_under c ts ≡ [] → Listened fs ps (on_desk w i) → Listened (fs ++ gs) (ps ++ packets_under c ts) (on_desk v i)
quiet w v i c fs ps gs ts d e =
    let at : List Desk → List ℕ → OnDesk =
    λ ds octets.
    let x = get_or ds i empty_desk in
    record { held = part (8198 * i) x.held octets; seen = x.seen; last = x.counter.0 } in
    nothing-new fs ps gs (packets_under c ts) (ap₂ at d e)

under_none : (c : Channel) {ts : List Thing} → ts ≡ [] → packets_under c ts ≡ []
unfolding packets_under
under_none c e = ap (packets_under c) e

under-gone : (c : Channel) {ts : List Thing} {k : ℕ} → ts ≡ gone k ∷ [] → packets_under c ts ≡ []
unfolding packets_under
under-gone c e = ap (packets_under c) e

named-at : (s : Station) (i : ℕ) → i < s.channels → get_or (named s) i 0 ≡ (channel_at s i).0
named-at s i low =
    get_or-map number (take s.channels s.watched) i (channel_of 0) ∙ ap number (get_or-take s.channels s.watched i (channel_of 0) low)

module _ {w : World} (h : SoundWorld w) (i : ℕ) (low : i < w.station.channels) where
  -- the frames of the desk are those of its channel
  mine : {f list : List ℕ} (t : Taken w f list) → t.frame.desk ≡ i → (header_channel f).0 ≡ (channel_at w.station i).0
  mine t e = ap number (sym (desk-sorted h t) ∙ ap (channel_at w.station) e)

  other : {f list : List ℕ} (t : Taken w f list) → (t.frame.desk ≡ i → ⊥) → (header_channel f).0 ≡ (channel_at w.station i).0 → ⊥
  other t n e =
      let s = w.station in
      let d = t.frame.desk in
      n (h.sound.set_up.distinct d i (taken-low h t) low
      (named-at s d (taken-low h t) ∙ ap number (desk-sorted h t) ∙ e ∙ sym (named-at s i low)))

  frame-heard : {f list : List ℕ} → Taken w f list → HeardOn w (frame f list) (channel_at w.station i) i
  frame-heard {f} {list} t fs ps e =
      let s = w.station in
      let d = t.frame.desk in
      let ch = channel_at s i in
      let sp = split_in w f t.frame in
      let k = desk_after t.frame (length sp.left) in
      let zero = eq-eqb (answer w (frame f list)) 0 (taken-zero w t) in
      elim (ℕ_discrete d i) [
        | yes q ↦
            let one : accepted_in w (frame f list) ch ≡ f ∷ [] =
            if-true (f ∷ []) [] (and_both zero (eq-eqb (header_channel f).0 ch.0 (mine t q))) in
            let all : packets_under ch (things w (frame f list)) ≡ sp.packets =
            ap (packets_under ch) (things-taken w t) ∙ under_same ch (channel_at s d) sp.packets d k (ap (λ (j : ℕ). (channel_at s j).0) q) in
            rw (one, all)
            (subst (λ (j : ℕ). Listened (fs ++ (f ∷ [])) (ps ++ sp.packets) (on_desk (runs.after w (frame f list)) j)) q
            (frame_here h t fs ps (subst (λ (j : ℕ). Listened fs ps (on_desk w j)) (sym q) e)))
        | no n ↦
            let none : accepted_in w (frame f list) ch ≡ [] =
            if-false (f ∷ []) [] (ap₂ ◌&&◌ zero (ne_eqb (header_channel f).0 ch.0 (other t n))) in
            let no-packet : packets_under ch (things w (frame f list)) ≡ [] =
            ap (packets_under ch) (things-taken w t)
            ∙ under-other ch (channel_at s d) sp.packets d k (λ r. other t n (sym (ap number (desk-sorted h t)) ∙ r)) in
            nothing-new fs ps (accepted_in w (frame f list) ch) (packets_under ch (things w (frame f list)))
            (frame-elsewhere h t i low (λ r. n (sym r))) none no-packet e
      ]

  refused-heard : (call : Call) → (answer w call ≡ 0 → ⊥) → accepted_in w call (channel_at w.station i) ≡ []
      → HeardOn w call (channel_at w.station i) i
  refused-heard call n a fs ps e =
      let same = ((every-answer w call).refused n).world in
      quiet w (runs.after w call) i (channel_at w.station i) fs ps (accepted_in w call (channel_at w.station i)) (things w call)
      (ap (λ (v : World). v.station.desks) same) (ap (λ (v : World). v.desks) same) a
      (under_none (channel_at w.station i) (things-refused w call n)) e

  done-heard : (call : Call) → answer w call ≡ 0 → HeardOn w call (channel_at w.station i) i
  unfolding runs.after answer
  done-heard (frame f list) z fs ps e = frame-heard (frame-taken w f list z) fs ps e
  done-heard (read k offset buffer) z fs ps e =
      quiet w w i (channel_at w.station i) fs ps [] (things w (read k offset buffer)) refl refl refl
      (under_none (channel_at w.station i) (things-read w k offset buffer)) e
  done-heard (let-go k) z fs ps e =
      quiet w (runs.after w (let-go k)) i (channel_at w.station i) fs ps [] (things w (let-go k))
      (ap (λ (r : LetGo). r.station.desks) ((let_go-outcome w.station k).done z) ∙ (stays-refiled (let_go-refiles w.station k)).desks) refl refl
      (under-gone (channel_at w.station i) (things-let-go w k z)) e

  none-refused : (call : Call) → (answer w call ≡ 0 → ⊥) → accepted_in w call (channel_at w.station i) ≡ []
  none-refused (frame f list) n =
      if-false (f ∷ []) [] (ap (λ (b : Bool). b && eqb (header_channel f).0 (channel_at w.station i).0) (ne_eqb (answer w (frame f list)) 0 n))
  none-refused (read k offset buffer) n = refl
  none-refused (let-go k) n = refl

  call-heard : (call : Call) → HeardOn w call (channel_at w.station i) i
  call-heard call =
      elim (ℕ_discrete (answer w call) 0) [
        | yes z ↦ done-heard call z
        | no n ↦ refused-heard call n (none-refused call n)
      ]

-- the channels watched stay
module _ {w : World} (h : SoundWorld w) where
  done-watches : (call : Call) → answer w call ≡ 0 → Watches w (runs.after w call)
  unfolding runs.after answer
  done-watches (frame f list) z =
      let t = frame-taken w f list z in
      let k = taken-keeps h t in
      record {
        watched = ap (λ (r : FrameOutcome). r.station.watched) t.gives ∙ k.watched;
        channels = ap (λ (r : FrameOutcome). r.station.channels) t.gives ∙ k.channels;
      }
  done-watches (read k offset buffer) z = record { watched = refl; channels = refl }
  done-watches (let-go k) z =
      let e = (let_go-outcome w.station k).done z in
      let r = stays-refiled (let_go-refiles w.station k) in
      record { watched = ap (λ (a : LetGo). a.station.watched) e ∙ r.watched; channels = ap (λ (a : LetGo). a.station.channels) e ∙ r.channels }

  call-watches : (call : Call) → Watches w (runs.after w call)
  call-watches call =
      elim (ℕ_discrete (answer w call) 0) [
        | yes z ↦ done-watches call z
        | no n ↦
            let same = ((every-answer w call).refused n).world in
            record { watched = ap (λ (v : World). v.station.watched) same; channels = ap (λ (v : World). v.station.channels) same }
      ]

-- and so over a run
run-listened : {w : World} → SoundWorld w → (i : ℕ) → i < w.station.channels → (c : Channel) → channel_at w.station i ≡ c → (cs : List Call)
    (fs ps : List (List ℕ)) → Listened fs ps (on_desk w i)
    → Listened (fs ++ accepted w cs c) (ps ++ packets_under c (all_things w cs)) (on_desk (run w cs) i)
unfolding run all_things accepted packets_under
run-listened h i low c is [] fs ps e = rw (append-nil fs, append-nil ps) e
run-listened {w} h i low c is (call ∷ cs) fs ps e =
    let k = call-watches h call in
    let one =
    subst (λ (d : Channel). Listened (fs ++ accepted_in w call d) (ps ++ packets_under d (things w call)) (on_desk (runs.after w call) i)) is
    (call-heard h i low call fs ps e) in
    let rest =
    run-listened {w = runs.after w call} (after-sound h call) i (omega (arith, k.channels)) c (ap (λ (ws : List Channel). get_or ws i (channel_of 0)) k.watched ∙ is) cs
    (fs ++ accepted_in w call c) (ps ++ packets_under c (things w call)) one in
    rw (
      under-append c (things w call) (all_things (runs.after w call) cs),
      ← append_assoc fs (accepted_in w call c) (accepted (runs.after w call) cs c),
      ← append_assoc ps (packets_under c (things w call)) (packets_under c (all_things (runs.after w call) cs)),
    ) rest

-- from a set-up nothing was heard
pub fresh-unheard : (x : Start) (i : ℕ) → on_desk (fresh x) i ≡ unheard
fresh-unheard x i =
    let d : desk_at (fresh x).station i ≡ empty_desk =
    ap (λ (r : SetUpOutcome). desk_at r.station i) ((set_up-outcome x.spacecraft x.channels x.desks x.store).done x.good)
    ∙ fresh-desk x.spacecraft x.channels (length x.store / 8190) i in
    ap (λ (y : Desk). record { held = part (8198 * i) y.held (fresh x).desks; seen = y.seen; last = y.counter.0 }) d

pub every-channel-heard : (x : Start) (cs : List Call) → EveryChannelHeard x cs
every-channel-heard x cs i low =
    let c = channel_at (fresh x).station i in
    let l = run-listened (fresh-sound x) i low c refl cs [] [] (subst (Listened [] []) (sym (fresh-unheard x i)) silence) in
    record { heard = stretches l; listened = l; only = λ m. listened-once m l refl }
