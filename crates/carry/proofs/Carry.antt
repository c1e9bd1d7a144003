-- The packet that was held: put together on its desk, it is carried on into the zone, or dropped. Assumes nothing.
use mathlib.Core.Path.{◌≡◌, refl, sym, ap, ap₂, ◌∙◌}
use mathlib.Core.Bool.{Bool, true, false}
use mathlib.Core.List.{List, [], ◌∷◌, ◌++◌, flat_map}
use Prim.Native.Nat.{ℕ, min, ◌+◌, ◌-◌, ◌*◌, ◌≤◌, ◌<◌}
use native.Mathlib.Omega.{arith}
use lib.ListN.{length, take, drop, length-append}
use lib.Seq.{take_all, length-take-le}
use Rattle.octets.specs.Number.{part}
use Rattle.octets.specs.Buffer.{put}
use Rattle.octets.proofs.Put.{put-nil, length-put}
use Rattle.frame.specs.declared.Accepted.{Accepted}
use Rattle.frame.specs.declared.Channel.{Channel}
use Rattle.frame.specs.declared.Pointer.{Pointer}
use Rattle.packet.specs.declared.Packet.{Packet}
use Rattle.packet.specs.declared.Look.{Look}
use Rattle.packet.specs.declared.Look.TheVariants.{Short, Bad, Good}
use Rattle.packet.specs.Header.{look_of, size_of}
use Rattle.packet.proofs.Looks.{look-good, look-tells}
use Rattle.state.specs.declared.Station.{Station}
use Rattle.state.specs.Slots.{desk_at}
use Rattle.state.specs.Sound.{Sized, DesksSound}
use Rattle.events.specs.Event.{Event, bare, flat}
use Rattle.judge.specs.Judge.{judged}
use Rattle.judge.specs.Contract.{Whole, Tells as TellsJudged}
use Rattle.judge.proofs.Keeps.{stays-watched, judged-stays, judged-store, judged-sound}
use Rattle.judge.proofs.Parts.{whole-largest}
use Rattle.judge.proofs.Few.{three}
use Rattle.zone.specs.declared.Sequel.{Sequel}
use Rattle.zone.specs.declared.Sequel.TheVariants.{Dropped, CarriedOn}
use Rattle.zone.specs.Zone.{Split, split, Reading, agrees, reading}
use Rattle.zone.specs.Walk.{judged_all, gap, held_at, with_held, with_desk, desk_after, Walked, walked_from, walked}
use Rattle.zone.specs.Contract.{Lent, Going, Carrying, start_at, sequel_of, TellsWalked, Stops, walked_on}
use Rattle.zone.specs.Contract.Room.{by-packet}
use Rattle.carry.specs.Contract.{more_of, joined_on, desk_to, Beginning, Afresh, Onwards}
use Rattle.carry.specs.Contract.Afresh.{by-gap, by-none, by-drop}
use Rattle.zone.proofs.Split.{split-left, split_one, unfinished-few, look-carried, carried-lacks, carried-packet}
use Rattle.zone.proofs.Readings.{from_start, at_pointer, onward, reading-none, reading-bad, reading-on, reading-dropped, reading-gap, reading-seamless}
use Rattle.zone.proofs.Sequels.{sequel-good, sequel-bad}
use Rattle.zone.proofs.Desks.{over-held, more-held, carried-cut}
use Rattle.zone.proofs.Walks.{all_one, walked_from_lem, from-carried, from-longer, held-length, desk-unfinished, led, from-led, tells-led}
use Rattle.walk.proofs.Ends.{desk-low, desk-fits}

-- the same promise in other words
pub tells_as : {w v : Walked} {n m : ℕ} {list₀ list desks store : List ℕ} {t : Station} → w ≡ v → TellsWalked v n list₀ t m desks store list
    → TellsWalked w n list₀ t m desks store list
tells_as e t = rw e t

-- desks of which only the frame's differs, and that is set in order afterwards
abbrev pub Alike : List ℕ → List ℕ → ℕ → Type 0
Alike desked desks i = (left : List ℕ) → length left ≤ 8198 → with_held desked i left ≡ with_held desks i left

module _ (c : Channel) (s : Station) (store : List ℕ) (a : Accepted) (desked desks : List ℕ) (same : Alike desked desks a.desk) where
  walked-alike : (es : List Event) (xs : List ℕ) → walked_from c s desks store a es xs ≡ walked_from c s desked store a es xs
  walked-alike es xs =
      ap (λ (ds : List ℕ). record {
        station = (walked_from c s desks store a es xs).station;
        desks = ds;
        store = (walked_from c s desks store a es xs).store;
        events = (walked_from c s desks store a es xs).events;
      })
      (sym (same (split xs).left (omega (arith, unfinished-few (split-left xs)))))

  -- "After a drop .. reading begins at the pointer": event k, then what is read from there
  pub tells-dropped : (k : ℕ) {q : Reading} (zone : List ℕ) → q ≡ at_pointer (bare k ∷ []) zone a.pointer → length zone ≡ 884
      → {from : ℕ} → from ≡ start_at a.pointer → {n : ℕ} {list₀ list : List ℕ} → n ≡ 0 + 1
      → list ≡ put list₀ (3 * 0) (k ∷ 0 ∷ 0 ∷ [])
      → {u : Station} {i : ℕ} {desks₁ store₁ list₁ : List ℕ} → TellsWalked (walked_from c s desked store a [] (drop from zone)) n list u i desks₁ store₁ list₁
      → TellsWalked (walked_from c s desks store a q.events q.octets) 0 list₀ u i desks₁ store₁ list₁
  unfolding flat flat_map
  tells-dropped k zone e size {from} f m l t =
      let xs = drop from zone in
      let w : walked_from c s desks store a (bare k ∷ []) xs ≡ led (bare k ∷ []) (walked_from c s desked store a [] xs) =
      walked-alike (bare k ∷ []) xs ∙ from-led c s desked store a (bare k ∷ []) xs in
      let at-start = from_start a.pointer zone size ∙ ap (λ (i : ℕ). drop i zone) (sym f) in
      tells_as
      (ap (λ (v : Reading). walked_from c s desks store a v.events v.octets) e ∙ ap (walked_from c s desks store a (bare k ∷ [])) at-start ∙ w)
      (tells-led (bare k ∷ []) (rw (m, l) at t))

module _ (xs zone : List ℕ) (p : Pointer) (some : 0 < length xs) (long : 6 ≤ length zone) where
  few-not : look_of (xs ++ zone) ≡ Short → ⊥
  few-not e = omega (arith, look-tells (xs ++ zone) e, length-append xs zone)

  pub sequel-dropped : {k : ℕ} → sequel_of (look_of (xs ++ zone)) (length xs) p ≡ Dropped k → reading xs zone p ≡ at_pointer (bare k ∷ []) zone p
  sequel-dropped {k} f = by (look_of (xs ++ zone)) refl
    where
      good : (h : Packet) → look_of (xs ++ zone) ≡ Good h → (b : Bool) → agrees (size_of h - length xs) p ≡ b
          → reading xs zone p ≡ at_pointer (bare k ∷ []) zone p
      good h e true g =
          let q : CarriedOn (size_of h) ≡ Dropped k = sym (rw g at (sequel-good p (length xs) h)) ∙ sym (ap (λ (l : Look). sequel_of l (length xs) p) e) ∙ f in
          let z : ◌≡◌ {A = ℕ} 0 1 = cc in
          absurd (omega arith)
      good h e false g =
          let q : Dropped 2 ≡ Dropped k = sym (rw g at (sequel-good p (length xs) h)) ∙ sym (ap (λ (l : Look). sequel_of l (length xs) p) e) ∙ f in
          let z : 2 ≡ k = cc in
          reading-dropped xs zone p some e g ∙ ap (λ (i : ℕ). at_pointer (bare i ∷ []) zone p) z

      by : (l : Look) → look_of (xs ++ zone) ≡ l → reading xs zone p ≡ at_pointer (bare k ∷ []) zone p
      by Short e = absurd (few-not e)
      by Bad e =
          let q : Dropped 3 ≡ Dropped k = sym (sequel-bad p (length xs)) ∙ sym (ap (λ (l : Look). sequel_of l (length xs) p) e) ∙ f in
          let z : 3 ≡ k = cc in
          reading-bad xs zone p some e ∙ ap (λ (i : ℕ). at_pointer (bare i ∷ []) zone p) z
      by (Good h) e = good h e (agrees (size_of h - length xs) p) refl

-- a packet of so many octets goes on from the held ones into the zone
pub record Onward (xs zone : List ℕ) (p : Pointer) (size : ℕ) : Type 0 where
  pub header : Packet
  pub looks : look_of (xs ++ zone) ≡ Good header
  pub sized : size ≡ size_of header
  pub reads : reading xs zone p ≡ onward xs zone

module _ (xs zone : List ℕ) (p : Pointer) (some : 0 < length xs) (long : 6 ≤ length zone) where
  pub sequel-onward : {size : ℕ} → sequel_of (look_of (xs ++ zone)) (length xs) p ≡ CarriedOn size → Onward xs zone p size
  sequel-onward {size} f = by (look_of (xs ++ zone)) refl
    where
      good : (h : Packet) → look_of (xs ++ zone) ≡ Good h → (b : Bool) → agrees (size_of h - length xs) p ≡ b → Onward xs zone p size
      good h e true g =
          let q : CarriedOn (size_of h) ≡ CarriedOn size =
          sym (rw g at (sequel-good p (length xs) h)) ∙ sym (ap (λ (l : Look). sequel_of l (length xs) p) e) ∙ f in
          record { header = h; looks = e; sized = cc; reads = reading-on xs zone p some e g }
      good h e false g =
          let q : Dropped 2 ≡ CarriedOn size = sym (rw g at (sequel-good p (length xs) h)) ∙ sym (ap (λ (l : Look). sequel_of l (length xs) p) e) ∙ f in
          let z : ◌≡◌ {A = ℕ} 0 1 = cc in
          absurd (omega arith)

      by : (l : Look) → look_of (xs ++ zone) ≡ l → Onward xs zone p size
      by Short e = absurd (few-not xs zone p some long e)
      by Bad e =
          let q : Dropped 3 ≡ CarriedOn size = sym (sequel-bad p (length xs)) ∙ sym (ap (λ (l : Look). sequel_of l (length xs) p) e) ∙ f in
          let z : ◌≡◌ {A = ℕ} 0 1 = cc in
          absurd (omega arith)
      by (Good h) e = good h e (agrees (size_of h - length xs) p) refl

-- what is lent serves after a packet was judged, too
module _ {c : Channel} {s : Station} {a : Accepted} {zone desks store list : List ℕ} (L : Lent c s a zone desks store list) {desked listed : List ℕ}
    (d : length desked ≡ length desks) where
  pub lent-judged : Sized s → (p : List ℕ) {t : Station} {m : ℕ} {stored : List ℕ} {n : ℕ} → TellsJudged (judged c s store p) n list t m stored listed
      → Lent c t a zone desked stored listed
  lent-judged z p {n} u =
      let k = judged-stays c s store p in
      rw (u.station, u.wrote)
      record {
        sound = judged-sound c s store p z L.sound L.watched;
        owners = k.owners ∙ L.owners;
        watched = stays-watched k L.watched;
        desk = rw k.channels L.desk;
        frame = L.frame;
        start = L.start;
        desked = d ∙ L.desked ∙ ap (λ (i : ℕ). 8198 * i) (sym k.channels);
        stored = judged-store c s store p ∙ L.stored ∙ ap (λ (i : ℕ). 8190 * i) (sym k.blocks);
        listed = omega (arith, L.listed, ap length u.listed, length-put list (3 * n) (flat (judged c s store p).events));
      }

-- a walk over one whole packet judges that packet
one-judged : (c : Channel) (s : Station) (p store : List ℕ) {n m : ℕ} {list₀ list stored : List ℕ} {t : Station} → Whole p
    → TellsJudged (judged_all c s store (split (drop 0 p)).packets) n list₀ t m stored list → TellsJudged (judged c s store p) n list₀ t m stored list
one-judged c s p store w u =
    rw (← all_one c s store p) (rw (ap (λ (sp : Split). sp.packets) (split_one w)) at u)

-- octets are held, and as many of the zone's as fit are to be put behind them
module _ {c : Channel} {s : Station} {a : Accepted} {held : ℕ} {zone desks store list : List ℕ} (C : Carrying c s a held zone desks store list) where
  pub held-few : held ≤ 8197
  held-few = omega (arith, C.here, (C.lent.sound.desks a.desk C.lent.desk).few)

  module _ {more : ℕ} (m : more ≡ min 884 (8198 - held)) where
    pub more-fits : held + more ≤ 8198
    more-fits = omega (arith, held-few)

    pub more-taken : length (take more zone) ≡ more
    more-taken = length-take-le more zone (omega (arith, C.lent.frame))

    pub copy-fits : 8198 * a.desk + held + more ≤ length desks
    copy-fits = omega (arith, more-fits, desk-fits C.lent)

-- they are put there
pub record Joined (c : Channel) (s : Station) (a : Accepted) (held : ℕ) (zone desks store list : List ℕ) : Type 0 where
  pub carrying : Carrying c s a held zone desks store list
  pub more : ℕ
  pub most : more ≡ min 884 (8198 - held)
  pub written : List ℕ
  pub wrote : written ≡ put desks (8198 * a.desk + held) (take more zone)

module _ {c : Channel} {s : Station} {a : Accepted} {held : ℕ} {zone desks store list : List ℕ} (J : Joined c s a held zone desks store list) where
  L : Lent c s a zone desks store list
  L = J.carrying.lent

  few : held ≤ 8197
  few = held-few J.carrying

  long : length (held_at s desks a.desk) ≡ held
  long = held-length L.sound desks L.desked a.desk L.desk ∙ sym J.carrying.here

  some : 0 < length (held_at s desks a.desk)
  some = omega (arith, long, J.carrying.some)

  lacks-some : (h : Packet) → look_of (held_at s desks a.desk ++ zone) ≡ Good h → held < size_of h
  lacks-some h e =
      let unfinished = desk-unfinished L.sound desks L.desked a.desk L.desk J.carrying.orderly in
      omega (arith, carried-lacks (held_at s desks a.desk) zone e unfinished, long)

  pub written-length : length J.written ≡ length desks
  written-length = ap length J.wrote ∙ length-put desks (8198 * a.desk + held) (take J.more zone)

  pub alike : Alike J.written desks a.desk
  alike left l =
      ap (λ (ds : List ℕ). with_held ds a.desk left) J.wrote
      ∙ over-held desks a.desk held (take J.more zone)
      (omega (arith, more-fits J.carrying J.most, more-taken J.carrying J.most)) left l

  on-desk : (r : ℕ) → r ≤ J.more → part (8198 * a.desk) (held + r) J.written ≡ held_at s desks a.desk ++ take r zone
  on-desk r l =
      ap (part (8198 * a.desk) (held + r)) J.wrote
      ∙ carried-cut desks zone (8198 * a.desk) held J.more r (copy-fits J.carrying J.most) (omega (arith, J.most, L.frame)) l
      ∙ ap (λ (n : ℕ). part (8198 * a.desk) n desks ++ take r zone) J.carrying.here

  look-desk : look_of (desk_to a (8198 * a.desk + held + J.more) J.written) ≡ look_of (held_at s desks a.desk ++ zone)
  look-desk =
      let k : 8198 * a.desk + held + J.more - 8198 * a.desk ≡ held + J.more = omega arith in
      ap (λ (n : ℕ). look_of (part (8198 * a.desk) n J.written)) k ∙ ap look_of (on-desk J.more (omega arith))
      ∙ look-carried (held_at s desks a.desk) zone J.more (omega (arith, long, few, J.most)) (omega (arith, J.most, L.frame))

  pub lacks : (h : Packet) → look_of (desk_to a (8198 * a.desk + held + J.more) J.written) ≡ Good h → held ≤ size_of h
  lacks h e = omega (arith, lacks-some h (sym look-desk ∙ e))

  module _ {f : Sequel} (e : f ≡ sequel_of (look_of (desk_to a (8198 * a.desk + held + J.more) J.written)) held a.pointer) where
    sequel-here : f ≡ sequel_of (look_of (held_at s desks a.desk ++ zone)) (length (held_at s desks a.desk)) a.pointer
    sequel-here = e ∙ ap₂ (λ (l : Look) (n : ℕ). sequel_of l n a.pointer) look-desk (sym long)

    pub drops : {k : ℕ} → f ≡ Dropped k → reading (held_at s desks a.desk) zone a.pointer ≡ at_pointer (bare k ∷ []) zone a.pointer
    drops g = sequel-dropped (held_at s desks a.desk) zone a.pointer some (omega (arith, L.frame)) (sym sequel-here ∙ g)

    pub goes_on : {size : ℕ} → f ≡ CarriedOn size → Onward (held_at s desks a.desk) zone a.pointer size
    goes_on g = sequel-onward (held_at s desks a.desk) zone a.pointer some (omega (arith, L.frame)) (sym sequel-here ∙ g)

  module _ {size : ℕ} (O : Onward (held_at s desks a.desk) zone a.pointer size) where
    pub lacking : held < size
    lacking = omega (arith, lacks-some O.header O.looks, O.sized)

    pub size-most : size ≤ 8198
    size-most = omega (arith, (look-good (held_at s desks a.desk ++ zone) O.header O.looks).largest, O.sized)

    lacked : length (held_at s desks a.desk) + (size - held) ≡ size_of O.header
    lacked = omega (arith, long, lacking, O.sized)

    packet-desk : size - held ≤ 884 → desk_to a (8198 * a.desk + size) J.written ≡ held_at s desks a.desk ++ take (size - held) zone
    packet-desk l =
        let k : 8198 * a.desk + size - 8198 * a.desk ≡ held + (size - held) = omega (arith, lacking) in
        ap (λ (n : ℕ). part (8198 * a.desk) n J.written) k ∙ on-desk (size - held) (omega (arith, J.most, size-most, lacking))

    pub whole-desk : size - held ≤ 884 → Whole (desk_to a (8198 * a.desk + size) J.written)
    whole-desk l =
        rw (packet-desk l)
        (carried-packet (held_at s desks a.desk) zone O.looks (size - held) lacked (omega (arith, L.frame)))

    -- "What is left unfinished at the zone's end is held."
    pub tells-longer : 884 < size - held
        → TellsWalked (walked_on c s desks store zone a) 0 list (with_desk s a.desk (desk_after a (held + 884))) 0 J.written store list
    unfolding flat flat_map
    tells-longer l =
        let xs = held_at s desks a.desk in
        let k : held + 884 ≡ length (xs ++ zone) = omega (arith, length-append xs zone, long, L.frame) in
        let n : J.more ≡ 884 = omega (arith, J.most, size-most, lacking) in
        let all : take J.more zone ≡ zone = take_all J.more zone (omega (arith, L.frame)) in
        tells_as
        (ap (λ (v : Reading). walked_from c s desks store a v.events v.octets) O.reads
        ∙ from-longer c s desks store a [] xs zone O.looks (size - held) lacked (omega (arith, L.frame)))
        (record {
          station = ap (λ (i : ℕ). with_desk s a.desk (desk_after a i)) k;
          events = refl;
          desked =
              J.wrote ∙ ap (put desks (8198 * a.desk + held)) all
              ∙ more-held desks a.desk held zone (omega (arith, size-most, L.frame))
              (rw J.carrying.here (J.carrying.orderly.octets a.desk L.desk)) (desk-fits L)
              ∙ ap (λ (i : ℕ). with_held desks a.desk (part (8198 * a.desk) i desks ++ zone)) J.carrying.here;
          stored = refl;
          listed = sym (put-nil list (3 * 0));
        })

    -- what the walk over the packet on the desk asks
    pub desk-going : size - held ≤ 884 → Going c s (desk_to a (8198 * a.desk + size) J.written) 0 store list 0
    desk-going l =
        let whole = whole-desk l in
        record {
          sound = L.sound;
          owners = L.owners;
          watched = L.watched;
          within = omega arith;
          short = whole-largest whole;
          stored = L.stored;
          room = by-packet whole (omega (arith, L.listed));
        }

    -- the packet was judged: what the rest of the zone is walked with, and what comes of all
    module _ (l : size - held ≤ 884) {t : Station} {m at : ℕ} {bad : Bool} {stored listed : List ℕ}
        (S : Stops c s (desk_to a (8198 * a.desk + size) J.written) 0 store 0 list t m at bad stored listed) where
      on : TellsJudged (judged c s store (desk_to a (8198 * a.desk + size) J.written)) 0 list t m stored listed
      on = one-judged c s (desk_to a (8198 * a.desk + size) J.written) store (whole-desk l) S.told

      pub rest-lent : Sized s → Lent c t a zone J.written stored listed
      rest-lent z = lent-judged L written-length z (desk_to a (8198 * a.desk + size) J.written) on

      pub rest-few : 3 * m ≤ size - held + 8
      rest-few = omega (arith, lacking, on.events, three c s store (desk_to a (8198 * a.desk + size) J.written))

      pub tells-onward : {v : Station} {i : ℕ} {desks₁ store₁ list₁ : List ℕ}
          → TellsWalked (walked_from c t J.written stored a [] (drop (size - held) zone)) m listed v i desks₁ store₁ list₁
          → TellsWalked (walked_on c s desks store zone a) 0 list v i desks₁ store₁ list₁
      tells-onward u =
          let xs = held_at s desks a.desk in
          let j = judged c s store (desk_to a (8198 * a.desk + size) J.written) in
          let rest = drop (size - held) zone in
          tells_as
          (ap (λ (v : Reading). walked_from c s desks store a v.events v.octets) O.reads
          ∙ from-carried c s desks store a [] xs zone O.looks (size - held) lacked (omega (arith, L.frame))
          ∙ ap (λ (q : List ℕ). walked_from c (judged c s store q).station desks (judged c s store q).store a (judged c s store q).events rest)
          (sym (packet-desk l))
          ∙ walked-alike c j.station j.store a J.written desks alike j.events rest
          ∙ from-led c j.station J.written j.store a j.events rest)
          (tells-led j.events (rw (on.station, on.events, on.wrote, on.listed) at u))

-- a frame that is not refused, by its cases
module _ (c : Channel) (s : Station) (desks store zone : List ℕ) (a : Accepted) {g : Bool} (e : g ≡ gap (desk_at s a.desk) a.counter) where
  -- "event 1, and the held octets are dropped"
  pub tells-gap : g ≡ true → length zone ≡ 884 → {from : ℕ} → from ≡ start_at a.pointer → {n : ℕ} {list₀ list : List ℕ}
      → n ≡ 0 + 1
      → list ≡ put list₀ (3 * 0) (1 ∷ 0 ∷ 0 ∷ [])
      → {u : Station} {i : ℕ} {desks₁ store₁ list₁ : List ℕ} → TellsWalked (walked_from c s desks store a [] (drop from zone)) n list u i desks₁ store₁ list₁
      → TellsWalked (walked c s desks store zone a) 0 list₀ u i desks₁ store₁ list₁
  tells-gap f size b n l t =
      tells_as (walked_from_lem c s desks store a zone)
      (tells-dropped c s store a desks desks (λ left k. refl) 1 zone (reading-gap s desks zone a (sym e ∙ f)) size b n l t)

  module _ (f : g ≡ false) {n : ℕ} {list₀ : List ℕ} {u : Station} {i : ℕ} {desks₁ store₁ list₁ : List ℕ} where
    pub tells-seamless : TellsWalked (walked_on c s desks store zone a) n list₀ u i desks₁ store₁ list₁
        → TellsWalked (walked c s desks store zone a) n list₀ u i desks₁ store₁ list₁
    tells-seamless t =
        tells_as
        (walked_from_lem c s desks store a zone
        ∙ ap (λ (v : Reading). walked_from c s desks store a v.events v.octets) (reading-seamless s desks zone a (sym e ∙ f)))
        t

    -- "with nothing held, reading begins at the pointer"
    pub tells-fresh : (desk_at s a.desk).held ≡ 0 → length zone ≡ 884 → {from : ℕ} → from ≡ start_at a.pointer
        → TellsWalked (walked_from c s desks store a [] (drop from zone)) n list₀ u i desks₁ store₁ list₁
        → TellsWalked (walked c s desks store zone a) n list₀ u i desks₁ store₁ list₁
    tells-fresh none size b t =
        let nothing : held_at s desks a.desk ≡ [] = ap (λ (i : ℕ). part (8198 * a.desk) i desks) none in
        let reads : reading (held_at s desks a.desk) zone a.pointer ≡ at_pointer [] zone a.pointer =
        ap (λ (xs : List ℕ). reading xs zone a.pointer) nothing ∙ reading-none zone a.pointer in
        let start = from_start a.pointer zone size ∙ ap (λ (i : ℕ). drop i zone) (sym b) in
        tells-seamless
        (tells_as
        (ap (λ (v : Reading). walked_from c s desks store a v.events v.octets) reads ∙ ap (walked_from c s desks store a []) start)
        t)

-- how a frame begins, and what comes of it
module _ {c : Channel} {s : Station} {a : Accepted} {zone desks store list : List ℕ} (L : Lent c s a zone desks store list) (D : DesksSound s desks) where
  abbrev joined : {desked : List ℕ} → 0 < (desk_at s a.desk).held → desked ≡ joined_on a (desk_at s a.desk).held zone desks
      → Joined c s a (desk_at s a.desk).held zone desks store list
  joined {desked} p w =
      record {
        carrying = record { lent = L; orderly = D; here = refl; some = p };
        more = more_of (desk_at s a.desk).held;
        most = refl;
        written = desked;
        wrote = w;
      }

  pub beginning : Beginning (desk_at s a.desk) a zone desks list
  beginning =
      record {
        joining =
            λ p.
            record {
              low = desk-low L;
              few = held-few (joined p refl).carrying;
              frame = L.frame;
              desked = desk-fits L;
              lacks = lacks (joined p refl);
            };
        room = omega (arith, L.listed);
      }

  module _ {n : ℕ} {desked listed : List ℕ} where
    pub afresh-tells : {from : ℕ} → from ≡ start_at a.pointer → Afresh (desk_at s a.desk) a zone desks list n desked listed
        → {u : Station} {i : ℕ} {desks₁ store₁ list₁ : List ℕ}
        → TellsWalked (walked_from c s desked store a [] (drop from zone)) n listed u i desks₁ store₁ list₁
        → TellsWalked (walked c s desks store zone a) 0 list u i desks₁ store₁ list₁
    afresh-tells f (by-gap g w m l) t = tells-gap c s desks store zone a refl g L.frame f m l (rw w at t)
    afresh-tells f (by-none g h w m l) t = tells-fresh c s desks store zone a refl g h L.frame f (rw (w, m, l) at t)
    afresh-tells f (by-drop {k} g p w e m l) t =
        let J = joined p w in
        tells-seamless c s desks store zone a refl g
        (tells-dropped c s store a J.written desks (alike J) k zone (drops J refl e) L.frame f m l t)

  -- the held packet goes on
  module _ {size : ℕ} {desked listed : List ℕ} (O : Onwards (desk_at s a.desk) a zone desks list size desked listed) where
    abbrev together : Joined c s a (desk_at s a.desk).held zone desks store list
    together = joined O.some O.wrote

    goes : Onward (held_at s desks a.desk) zone a.pointer size
    goes = goes_on together refl O.sequel

    pub onward-lacking : (desk_at s a.desk).held < size
    onward-lacking = lacking together goes

    pub onward-most : size ≤ 8198
    onward-most = size-most together goes

    pub onward-length : length desked ≡ length desks
    onward-length = written-length together

    pub onward-longer : 884 < size - (desk_at s a.desk).held
        → TellsWalked (walked c s desks store zone a) 0 list (with_desk s a.desk (desk_after a ((desk_at s a.desk).held + 884))) 0 desked store listed
    onward-longer l = rw O.none (tells-seamless c s desks store zone a refl O.seamless (tells-longer together goes l))

    module _ (l : size - (desk_at s a.desk).held ≤ 884) where
      pub onward-going : Going c s (desk_to a (8198 * a.desk + size) desked) 0 store listed 0
      onward-going = rw O.none (desk-going together goes l)

      module _ {t : Station} {m at : ℕ} {bad : Bool} {stored told : List ℕ}
          (S : Stops c s (desk_to a (8198 * a.desk + size) desked) 0 store 0 listed t m at bad stored told) where
        stops : Stops c s (desk_to a (8198 * a.desk + size) desked) 0 store 0 list t m at bad stored told
        stops = rw O.none at S

        pub onward-lent : Sized s → Lent c t a zone desked stored told
        onward-lent z = rest-lent together goes l stops z

        pub onward-few : 3 * m ≤ size - (desk_at s a.desk).held + 8
        onward-few = rest-few together goes l stops

        pub onward-tells : {v : Station} {i : ℕ} {desks₁ store₁ list₁ : List ℕ}
            → TellsWalked (walked_from c t desked stored a [] (drop (size - (desk_at s a.desk).held) zone)) m told v i desks₁ store₁ list₁
            → TellsWalked (walked c s desks store zone a) 0 list v i desks₁ store₁ list₁
        onward-tells u =
            tells-seamless c s desks store zone a refl O.seamless (tells-onward together goes l stops u)
