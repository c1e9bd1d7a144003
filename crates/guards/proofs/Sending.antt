-- What frames that are sent bring, as they come: the packet that is carried from zone to zone, and what is whole at its end. Assumes
-- nothing.
use Rattle.std.specs.Prelude.{if◌then◌else◌, Some, Ok}
use mathlib.Core.Path.{◌≡◌, refl, sym, ap, ap₂, subst, ◌∙◌}
use mathlib.Core.Bool.{true, false}
use mathlib.Core.Logic.{◌⊎◌, inl, inr, ⊎_elim}
use mathlib.Core.List.{List, [], ◌∷◌, ◌++◌, map, append-nil}
use Prim.Native.Nat.{ℕ, zero, suc, ◌+◌, ◌-◌, ◌*◌, ◌%◌, ◌≤◌, ◌<◌}
use native.Mathlib.Omega.{arith}
use borrow.Author.Tests.{eq-eqb, ltb-true, ltb-false}
use lib.Dec.{ltb}
use lib.ListN.{length, take, get_or, replicate, length-append, length-replicate}
use lib.Seq.{take_at, take_all, take-take, length-take-le, get_or-set_same, get_or-set_other}
use Rattle.octets.specs.Number.{number, bits_at, part}
use Rattle.octets.proofs.Decide.{tells as said-true}
use Rattle.octets.proofs.Lists.{if-cases, part-add}
use Rattle.noise.proofs.Mixing.{length-mixed, mixed-twice}
use Rattle.frame.specs.declared.Accepted.{Accepted}
use Rattle.frame.specs.declared.Channel.{Channel}
use Rattle.frame.specs.declared.Frame.{Frame}
use Rattle.frame.specs.declared.Pointer.TheVariants as pointer
use Rattle.frame.specs.Kinds.{counter_follows, desk_of, desk_from}
use Rattle.frame.specs.Header.{starts_with, derandomised, frame_of, zone_of, pointer_meaning}
use Rattle.frame.specs.Refusals.{sized_and_marked, examined_header}
use Rattle.frame.proofs.Framing.{is_framed}
use Rattle.frame.proofs.Pointers.{below-offset, no_start}
use Rattle.frame.proofs.Answers.{accepted, of-header}
use Rattle.packet.specs.declared.Packet.{Packet}
use Rattle.packet.specs.declared.Look.TheVariants as look
use Rattle.packet.specs.Header.{look_of, size_of}
use Rattle.packet.proofs.Looks.{look-same}
use Rattle.state.specs.declared.Desk.{Desk}
use Rattle.state.specs.declared.Slot.{Slot}
use Rattle.state.specs.declared.Station.{Station}
use Rattle.state.specs.Slots.{desk_at, empty_desk}
use Rattle.events.specs.Event.{Event}
use Rattle.zone.specs.Zone.{Split, split, Reading, agrees, reading}
use Rattle.zone.specs.Walk.{desk_after, judged_all, gap, held_at, reading_of, with_held, with_desk, Walked, walked, walked_by, walked_from}
use Rattle.zone.proofs.Split.{split-part, split-left, unfinished-few}
use Rattle.zone.proofs.Readings.{Agrees, agrees-exactly, reading-first, reading-on, reading-seamless}
use Rattle.zone.proofs.Walks.{all-stays, all-sized, held-now, walked_from_lem}
use Rattle.station.specs.SetUp.{channel_of}
use Rattle.station.specs.Frame.{FrameOutcome, taken, channel_at}
use Rattle.history.specs.Run.{World, Call, after, run, SoundWorld}
use Rattle.history.specs.Run.Call.{frame}
use Rattle.history.specs.Things.{Thing, examined_in, framed_things, things, said}
use Rattle.history.specs.Things.Thing.{packet, left}
use Rattle.history.proofs.Framing.{Taken}
use Rattle.history.proofs.Sound.{after-sound, sound-takes}
use Rattle.history.proofs.Moments.{things-taken}
use Rattle.history.proofs.Blocks.{said-taken}
use Rattle.guards.specs.Sent.{plain, sent_on, pointer_at, frames_from, ten_frames_on, all_said}

-- channels 0 to 3
abbrev pub four : List Channel
four = map channel_of (0 ∷ 1 ∷ 2 ∷ 3 ∷ []) ++ replicate 4 (channel_of 0)

-- each of them stands at its own place
four-at : (c : ℕ) → c < 4 → get_or four c (channel_of 0) ≡ channel_of c
four-at zero l = refl
four-at (suc zero) l = refl
four-at (suc (suc zero)) l = refl
four-at (suc (suc (suc zero))) l = refl
four-at (suc (suc (suc (suc c)))) l = absurd (omega arith)

four-desk : (c : ℕ) → c < 4 → desk_of (take 4 four) (channel_of c) ≡ Some c
unfolding desk_of desk_from
four-desk zero l = refl
four-desk (suc zero) l = refl
four-desk (suc (suc zero)) l = refl
four-desk (suc (suc (suc zero))) l = refl
four-desk (suc (suc (suc (suc c)))) l = absurd (omega arith)

abbrev headed : ℕ → ℕ → ℕ → Frame
headed c n p = record { version = 1; spacecraft = 1; channel = channel_of c; counter = record { 0 = n }; pointer = p }

abbrev pub accepts_on : ℕ → ℕ → ℕ → Accepted
accepts_on c n p = record { desk = c; counter = record { 0 = n }; pointer = pointer_meaning p }

abbrev pub accepts : ℕ → ℕ → Accepted
accepts n p = accepts_on 2 n p

abbrev Pointing : ℕ → Type 0
Pointing p = (p < 884) ⊎ (p ≡ 2047)

-- a frame that is sent is read as it was meant
module _ (c n p : ℕ) (zone : List ℕ) (watched : c < 4) (low : n < 256) (points : Pointing p) where
  pub header-sent : frame_of (plain c n p zone) ≡ headed c n p
  unfolding frame_of bits_at number
  header-sent =
      let few : p < 2048 = ⊎_elim (λ l. omega arith) (λ e. omega arith) points in
      let h = take 8 (plain c n p zone) in
      let a : bits_at h 0 2 ≡ 1 = omega arith in
      let b : bits_at h 2 8 ≡ 1 = omega arith in
      let d : bits_at h 10 6 ≡ c = omega arith in
      let e : bits_at h 16 24 ≡ n = omega arith in
      let f : bits_at h 53 11 ≡ p = omega arith in
      λ i. record { version = a i; spacecraft = b i; channel = record { 0 = d i }; counter = record { 0 = e i }; pointer = f i }

  pub sent-plain : derandomised (sent_on c n p zone) ≡ plain c n p zone
  unfolding derandomised
  sent-plain = mixed-twice (plain c n p zone)

  allowed : pointer_meaning p ≡ pointer.Refused → ⊥
  allowed e =
      ⊎_elim
      (λ l.
      let m : pointer_meaning p ≡ pointer.Offset p = below-offset p l in
      let z : ◌≡◌ {A = ℕ} 0 1 = cc in
      omega arith)
      (λ q.
      let m : pointer_meaning p ≡ pointer.NoStart = no_start p q in
      let z : ◌≡◌ {A = ℕ} 0 1 = cc in
      omega arith)
      points

  module _ (size : length zone ≡ 884) where
    pub sent-framed : sized_and_marked (sent_on c n p zone) ≡ true
    unfolding starts_with
    sent-framed =
        is_framed (sent_on c n p zone)
        (omega (arith, length-mixed (plain c n p zone), length-append zone (replicate 128 0), length-replicate {A = ℕ} 128 0)) refl

    pub zone-sent : zone_of (derandomised (sent_on c n p zone)) ≡ zone
    unfolding zone_of
    zone-sent = ap zone_of sent-plain ∙ take_at zone (replicate 128 0) 884 size

    pub sent-good : examined_header 1 (take 4 four) (frame_of (derandomised (sent_on c n p zone))) ≡ Ok (accepts_on c n p)
    sent-good =
        ap (λ (xs : List ℕ). examined_header 1 (take 4 four) (frame_of xs)) sent-plain ∙ ap (examined_header 1 (take 4 four)) header-sent
        ∙ accepted 1 (take 4 four) (headed c n p) (accepts_on c n p)
        (record {
          version = refl;
          spacecraft = refl;
          no-fill = λ e. omega arith;
          desk = four-desk c watched;
          allowed = allowed;
          counter = refl;
          pointer = refl;
        })

-- a station of spacecraft 1 with channels 0 to 3 and seven blocks, whose files are xs; channel c waits for counter n and holds these octets,
-- and those above it have heard nothing yet
pub record ListensOn (c : ℕ) (w : World) (n : ℕ) (octets : List ℕ) (xs : List Slot) : Type 0 where
  pub named : c < 4
  pub sound : SoundWorld w
  pub craft : w.station.spacecraft ≡ 1
  pub channels : w.station.channels ≡ 4
  pub watched : w.station.watched ≡ four
  pub blocks : w.station.blocks ≡ 7
  pub slots : w.station.slots ≡ xs
  pub seamless : gap (desk_at w.station c) (record { 0 = n }) ≡ false
  pub holds : held_at w.station w.desks c ≡ octets
  pub silent : (d : ℕ) → c < d → desk_at w.station d ≡ empty_desk

abbrev pub Listens : World → ℕ → List ℕ → List Slot → Type 0
Listens w n octets xs = ListensOn 2 w n octets xs

-- what packets of channel c make of the files of any such station
pub record MakesOn (c : ℕ) (xs : List Slot) (ps : List (List ℕ)) (ys : List Slot) (es : List Event) : Type 0 where
  pub from :
      (s : Station) (store : List ℕ) → s.slots ≡ xs → s.blocks ≡ 7
      → ((judged_all (channel_of c) s store ps).station.slots ≡ ys) × ((judged_all (channel_of c) s store ps).events ≡ es)

abbrev pub Makes : List Slot → List (List ℕ) → List Slot → List Event → Type 0
Makes xs ps ys es = MakesOn 2 xs ps ys es

pub makes_none : {c : ℕ} (xs : List Slot) → MakesOn c xs [] xs []
unfolding judged_all
makes_none xs = record { from = λ s store e b. (e, refl) }

abbrev pub cut : List (List ℕ) → List ℕ → Split
cut ps rest = record { packets = ps; bad = false; left = rest }

no_gap : (c n p m k : ℕ) → n < 256 → m ≡ n + 1 → gap (desk_after (accepts_on c n p) k) (record { 0 = m }) ≡ false
unfolding gap counter_follows
no_gap c n p m k low e =
    let q : m ≡ (n + 1) % 0x1000000 = omega arith in
    rw (eq-eqb m ((n + 1) % 0x1000000) q)

-- a frame: the octets that it adds to those held are cut into packets, and what is left is held
module _ {c : ℕ} {w : World} {n : ℕ} {octets : List ℕ} {xs : List Slot} (L : ListensOn c w n octets xs) (low : n < 256) (p : ℕ) (points : Pointing p)
    (zone list : List ℕ) (size : length zone ≡ 884) (room : 900 ≤ length list) where
  here : Call
  here = frame (sent_on c n p zone) list

  good : examined_in w (sent_on c n p zone) ≡ Ok (accepts_on c n p)
  good =
      rw (L.craft, L.channels, L.watched)
      (of-header 1 (take 4 four) (sent_on c n p zone) (sent-framed c n p zone L.named low points size) ∙ sent-good c n p zone L.named low points size)

  takes : Taken w (sent_on c n p zone) list
  takes = (sound-takes L.sound (sent_on c n p zone) list good room).0

  same : takes.frame ≡ accepts_on c n p
  unfolding takes
  same = (sound-takes L.sound (sent_on c n p zone) list good room).1

  module _ (ys : List ℕ) (reads : reading octets zone (pointer_meaning p) ≡ record { events = []; octets = ys }) where
    its-channel : channel_at w.station c ≡ channel_of c
    its-channel = ap (λ (cs : List Channel). get_or cs c (channel_of 0)) L.watched ∙ four-at c L.named

    read_here : reading_of w.station w.desks (zone_of (derandomised (sent_on c n p zone))) (accepts_on c n p) ≡ record { events = []; octets = ys }
    read_here =
        let s = w.station in
        ap (λ (zs : List ℕ). reading_of s w.desks zs (accepts_on c n p)) (zone-sent c n p zone L.named low points size)
        ∙ reading-seamless s w.desks zone (accepts_on c n p) L.seamless ∙ ap (λ (hs : List ℕ). reading hs zone (pointer_meaning p)) L.holds ∙ reads

    walks : walked (channel_at w.station takes.frame.desk) w.station w.desks w.store (zone_of (derandomised (sent_on c n p zone))) takes.frame
        ≡ walked_from (channel_of c) w.station w.desks w.store (accepts_on c n p) [] ys
    walks =
        let s = w.station in
        let a = accepts_on c n p in
        let z = zone_of (derandomised (sent_on c n p zone)) in
        ap (λ (b : Accepted). walked (channel_at s b.desk) s w.desks w.store z b) same
        ∙ walked_from_lem (channel_at s c) s w.desks w.store a z
        ∙ ap₂ (λ (ch : Channel) (r : Reading). walked_from ch s w.desks w.store a r.events r.octets) its-channel read_here

    module _ (ps : List (List ℕ)) (rest : List ℕ) (cuts : split ys ≡ cut ps rest) where
      next : World
      next =
          let j = judged_all (channel_of c) w.station w.store ps in
          record {
            station = with_desk j.station c (desk_after (accepts_on c n p) (length rest));
            desks = with_held w.desks c rest;
            store = j.store;
          }

      comes : after w here ≡ next
      unfolding after here next
      comes =
          let s = w.station in
          ap (λ (r : FrameOutcome). record { station = r.station; desks = r.desks; store = r.store })
          (takes.gives ∙ ap (taken s list) (walks ∙ ap (walked_by (channel_of c) s w.desks w.store (accepts_on c n p) []) cuts))

      -- its things: the packets, and then its desk
      pub brings-packets : things w (frame (sent_on c n p zone) list)
          ≡ map (packet (channel_of c)) ps ++ (left c (desk_after (accepts_on c n p) (length rest)) ∷ [])
      brings-packets =
          let in_order : Channel → Split → List Thing =
          λ ch sp. map (packet ch) sp.packets ++ (left c (desk_after (accepts_on c n p) (length sp.left)) ∷ []) in
          things-taken w takes ∙ ap (λ (a : Accepted). framed_things w (sent_on c n p zone) (Ok a)) same
          ∙ ap₂ in_order its-channel (ap (λ (r : Reading). split r.octets) read_here ∙ cuts)

      tells : said w here ≡ (judged_all (channel_of c) w.station w.store ps).events
      unfolding here
      tells =
          let s = w.station in
          said-taken w takes
          ∙ ap (λ (v : Walked). v.events) (walks ∙ ap (walked_by (channel_of c) s w.desks w.store (accepts_on c n p) []) cuts)
          ∙ append-nil (judged_all (channel_of c) s w.store ps).events

      pub step : (m : ℕ) → m ≡ n + 1 → {zs : List Slot} {es : List Event} → MakesOn c xs ps zs es
          → ListensOn c (after w (frame (sent_on c n p zone) list)) m rest zs × (said w (frame (sent_on c n p zone) list) ≡ es)
      unfolding here next
      step m e {zs} does =
          let s = w.station in
          let j = judged_all (channel_of c) s w.store ps in
          let a = all-stays (channel_of c) s w.store ps in
          let made = does.from s w.store L.slots L.blocks in
          let d = desk_after (accepts_on c n p) (length rest) in
          let z = all-sized (channel_of c) s w.store ps L.sound.sized in
          let desk : desk_at (with_desk j.station c d) c ≡ d = get_or-set_same j.station.desks c d empty_desk (omega (arith, z.desks, L.named)) in
          let few : length rest ≤ 8198 = omega (arith, ap (λ (sp : Split). length sp.left) cuts, unfinished-few (split-left ys)) in
          let listens : ListensOn c next m rest zs =
          record {
            named = L.named;
            sound = subst SoundWorld comes (after-sound L.sound (frame (sent_on c n p zone) list));
            craft = a.spacecraft ∙ L.craft;
            channels = a.channels ∙ L.channels;
            watched = a.watched ∙ L.watched;
            blocks = a.blocks ∙ L.blocks;
            slots = made.0;
            seamless = rw desk (no_gap c n p m (length rest) low e);
            holds = rw desk (held-now w.desks c rest few (omega (arith, L.sound.desked, L.channels, L.named)));
            silent =
                λ i above.
                get_or-set_other j.station.desks c i d empty_desk (λ e. omega arith) ∙ ap (λ (ds : List Desk). get_or ds i empty_desk) a.desks ∙ L.silent i above;
          } in
          (subst (λ (v : World). ListensOn c v m rest zs) (sym comes) listens, tells ∙ made.1)

-- what calls bring, from a world that listens
pub record BringsOn (c : ℕ) (w : World) (cs : List Call) (n : ℕ) (ys : List Slot) (es : List Event) : Type 0 where
  pub listens : ListensOn c (run w cs) n [] ys
  pub tells : all_said w cs ≡ es

abbrev pub Brings : World → List Call → ℕ → List Slot → List Event → Type 0
Brings w cs n ys es = BringsOn 2 w cs n ys es

-- "the pointer must be r if r is below 884, and 2047 otherwise"
agrees-right : (r : ℕ) → agrees r (pointer_meaning (if ltb r 884 then r else 2047)) ≡ true
agrees-right r = said-true (agrees-exactly r (if ltb r 884 then r else 2047)) (if-cases (Agrees r) (ltb r 884) (λ e. inl (ltb-true r 884 e, refl)) (λ e. inr (ltb-false r 884 e, refl)))

points-right : (j : ℕ) → Pointing (pointer_at j)
points-right zero = inl (omega arith)
points-right (suc j) =
    if-cases Pointing (ltb (8198 - 884 * suc j) 884) (λ e. inl (ltb-true (8198 - 884 * suc j) 884 e)) (λ e. inr refl)

-- ten frames that carry a packet of 8,198 octets, and others behind it
module _ (n : ℕ) (room : n + 10 ≤ 256) (octets list : List ℕ) (size : length octets ≡ 8840) (listed : 900 ≤ length list)
    {h : Packet} (head : look_of octets ≡ look.Good h) (big : size_of h ≡ 8198)
    (ps : List (List ℕ)) (cuts : split octets ≡ cut ps [])
    {c : ℕ} {xs ys : List Slot} {es : List Event} (does : MakesOn c xs ps ys es) where
  -- the octets of the first j zones
  front : ℕ → List ℕ
  front j = take (884 * j) octets

  front_long : (j : ℕ) → j ≤ 10 → length (front j) ≡ 884 * j
  unfolding front
  front_long j l = length-take-le (884 * j) octets (omega arith)

  front-next : (j : ℕ) → front j ++ part (884 * j) 884 octets ≡ front (suc j)
  unfolding front
  front-next j =
      let k : 884 * j + 884 ≡ 884 * suc j = omega arith in
      let z : 0 + 884 * j ≡ 884 * j = omega arith in
      sym (rw (k, z) at (part-add octets 0 (884 * j) 884))

  zone-long : (j : ℕ) → j < 10 → length (part (884 * j) 884 octets) ≡ 884
  zone-long j l = omega (arith, ap length (front-next j), length-append (front j) (part (884 * j) 884 octets), front_long j (omega arith), front_long (suc j) (omega arith))

  front-look : (j : ℕ) → j < 10 → look_of (front (suc j)) ≡ look.Good h
  unfolding front
  front-look j l =
      look-same (front (suc j)) octets (omega (arith, front_long (suc j) (omega arith))) (omega arith)
      (take-take 6 (884 * suc j) octets (omega arith)) ∙ head

  -- not yet whole
  front-part : (j : ℕ) → j < 9 → split (front (suc j)) ≡ cut [] (front (suc j))
  front-part j l = split-part (front (suc j)) (front-look j (omega arith)) (omega (arith, front_long (suc j) (omega arith)))

  front-all : front 10 ≡ octets
  unfolding front
  front-all = take_all 8840 octets (omega arith)

  -- the packet is carried on
  carried_on : (j : ℕ) → j < 9
      → reading (front (suc j)) (part (884 * suc j) 884 octets) (pointer_meaning (pointer_at (suc j))) ≡ record { events = []; octets = front (suc (suc j)) }
  carried_on j l =
      let zone = part (884 * suc j) 884 octets in
      let k : size_of h - length (front (suc j)) ≡ 8198 - 884 * suc j = omega (arith, front_long (suc j) (omega arith)) in
      reading-on (front (suc j)) zone (pointer_meaning (pointer_at (suc j))) (omega (arith, front_long (suc j) (omega arith)))
      (ap look_of (front-next (suc j)) ∙ front-look (suc j) (omega arith))
      (rw k (agrees-right (8198 - 884 * suc j)))
      ∙ ap (λ (zs : List ℕ). record { events = []; octets = zs }) (front-next (suc j))

  carry : (m j : ℕ) → j + m ≡ 8 → (w : World) → ListensOn c w (n + suc j) (front (suc j)) xs
      → BringsOn c w (frames_from c n octets list (suc j) (suc m)) (n + 10) ys es
  unfolding run all_said
  carry zero j e w L =
      let zone = part (884 * suc j) 884 octets in
      let q : suc (suc j) ≡ 10 = omega arith in
      let (v, t) =
      step L (omega arith) (pointer_at (suc j)) (points-right (suc j)) zone list (zone-long (suc j) (omega arith)) listed
      (front (suc (suc j))) (carried_on j (omega arith)) ps [] (ap (λ (i : ℕ). split (front i)) q ∙ ap split front-all ∙ cuts)
      (n + 10) (omega arith) does in
      record { listens = v; tells = append-nil (said w (frame (sent_on c (n + suc j) (pointer_at (suc j)) zone) list)) ∙ t }
  carry (suc m) j e w L =
      let zone = part (884 * suc j) 884 octets in
      let (v, t) =
      step L (omega arith) (pointer_at (suc j)) (points-right (suc j)) zone list (zone-long (suc j) (omega arith)) listed
      (front (suc (suc j))) (carried_on j (omega arith)) [] (front (suc (suc j))) (front-part (suc j) (omega arith))
      (n + suc (suc j)) (omega arith) (makes_none xs) in
      let b = carry m (suc j) (omega arith) (after w (frame (sent_on c (n + suc j) (pointer_at (suc j)) zone) list)) v in
      record { listens = b.listens; tells = rw t b.tells }

  pub ten-bring : {w : World} → ListensOn c w n [] xs → BringsOn c w (ten_frames_on c n octets list) (n + 10) ys es
  unfolding run all_said front
  ten-bring {w} L =
      let k : n ≡ n + 0 = omega arith in
      let zone = part (884 * 0) 884 octets in
      let (v, t) =
      step (subst (λ (i : ℕ). ListensOn c w i [] xs) k L) (omega arith) 0 (inl (omega arith)) zone list (zone-long 0 (omega arith)) listed
      zone (reading-first zone) [] zone (front-part 0 (omega arith)) (n + 1) (omega arith) (makes_none xs) in
      let b = carry 8 0 refl (after w (frame (sent_on c (n + 0) 0 zone) list)) v in
      record { listens = b.listens; tells = rw t b.tells }
