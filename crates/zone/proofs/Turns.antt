-- The walk over a zone, turn by turn: what holds at each place of it, from where it begins to where it stops. Assumes nothing.
use mathlib.Core.Path.{◌≡◌, refl, sym, ap, ap₂, ◌∙◌}
use mathlib.Core.Bool.{Bool, true, false, true≢false}
use mathlib.Core.List.{List, [], ◌∷◌, ◌++◌, append-nil, flat_map}
use Prim.Native.Nat.{ℕ, ◌+◌, ◌-◌, ◌*◌, ◌≤◌, ◌<◌}
use native.Mathlib.Omega.{arith}
use borrow.Author.Tests.{lt-ltb, le-ltb, ltb-true, ltb-false}
use lib.Dec.{ltb}
use lib.ListN.{length, take, drop, length-append, length-drop}
use lib.Seq.{drop-drop, length-take-le}
use Rattle.octets.specs.Buffer.{put}
use Rattle.octets.proofs.Lists.{whole-rest}
use Rattle.octets.proofs.Put.{put-nil, length-put}
use Rattle.frame.specs.declared.Channel.{Channel}
use Rattle.packet.specs.declared.Packet.{Packet}
use Rattle.packet.specs.declared.Look.{Look}
use Rattle.packet.specs.declared.Look.TheVariants.{Short, Bad, Good}
use Rattle.packet.specs.Header.{packet_of, look_of, size_of}
use Rattle.packet.proofs.Looks.{look-good}
use Rattle.state.specs.declared.Station.{Station}
use Rattle.state.specs.Sound.{Sized}
use Rattle.events.specs.Event.{Event, of, flat}
use Rattle.events.proofs.Flat.{flat-behind}
use Rattle.judge.specs.declared.Ruling.{Ruling}
use Rattle.judge.specs.declared.Ruling.TheVariants.{Skips, Says}
use Rattle.judge.specs.Judge.{gives, after, judged}
use Rattle.judge.specs.Ruling.{ruling_of}
use Rattle.judge.specs.Contract.{Ready, Whole, Tells as TellsJudged}
use Rattle.judge.proofs.Keeps.{stays-watched, judged-stays, judged-sized, judged-store, judged-sound}
use Rattle.judge.proofs.Few.{few}
use Rattle.judge.proofs.Flat.{tells_as, tells-gives, tells_none, tells-one}
use Rattle.judge.proofs.Rulings.{ruled-skips, ruled-says}
use Rattle.zone.specs.declared.Next.{Next}
use Rattle.zone.specs.declared.Next.TheVariants.{Take, End}
use Rattle.zone.specs.Zone.{Split, behind, split}
use Rattle.zone.specs.Walk.{judged_all}
use Rattle.zone.specs.Contract.{Room, Going, next_by, next_of, Stops}
use Rattle.zone.specs.Contract.Room.{by-octets, by-packet, by-none}
use Rattle.zone.proofs.Split.{split-short, split-bad, split-part, split-whole, packet-whole, packet-header}
use Rattle.zone.proofs.Walks.{after-after, all_first}

-- what comes next, in every case
pub data Nexts (xs : List ℕ) : Next → Type 0 where
  short : look_of xs ≡ Short → Nexts xs (End false)
  spoilt : look_of xs ≡ Bad → Nexts xs (End true)
  part : {h : Packet} → look_of xs ≡ Good h → length xs < size_of h → Nexts xs (End false)
  whole : {h : Packet} → look_of xs ≡ Good h → size_of h ≤ length xs → Nexts xs (Take h)

module _ (xs : List ℕ) where
  pub next-short : look_of xs ≡ Short → next_of xs ≡ End false
  unfolding next_by
  next-short e = rw e

  pub next-bad : look_of xs ≡ Bad → next_of xs ≡ End true
  unfolding next_by
  next-bad e = rw e

  pub next-part : {h : Packet} → look_of xs ≡ Good h → length xs < size_of h → next_of xs ≡ End false
  unfolding next_by
  next-part {h} e l = rw (e, lt-ltb (length xs) (size_of h) l)

  pub next-whole : {h : Packet} → look_of xs ≡ Good h → size_of h ≤ length xs → next_of xs ≡ Take h
  unfolding next_by
  next-whole {h} e l = rw (e, le-ltb (length xs) (size_of h) l)

  nexts-as : Nexts xs (next_of xs)
  nexts-as = by (look_of xs) refl
    where
      good : (h : Packet) → look_of xs ≡ Good h → (b : Bool) → ltb (length xs) (size_of h) ≡ b → Nexts xs (next_of xs)
      good h e true l =
          let m = ltb-true (length xs) (size_of h) l in
          rw (next-part e m) (part e m)
      good h e false l =
          let m = ltb-false (length xs) (size_of h) l in
          rw (next-whole e m) (whole e m)

      by : (l : Look) → look_of xs ≡ l → Nexts xs (next_of xs)
      by Short e = rw (next-short e) (short e)
      by Bad e = rw (next-bad e) (spoilt e)
      by (Good h) e = good h e (ltb (length xs) (size_of h)) refl

-- the packet that comes next: its header, and its size as the code has it
pub record Taken (xs : List ℕ) (h : Packet) (m : ℕ) : Type 0 where
  pub looks : look_of xs ≡ Good h
  pub size : m ≡ size_of h
  pub fits : m ≤ length xs

nexts-taken : {xs : List ℕ} {x : Next} → Nexts xs x → (h : Packet) (m : ℕ) → x ≡ Take h → m ≡ size_of h → Taken xs h m
nexts-taken (short e) h m q n = let z : ◌≡◌ {A = ℕ} 0 1 = cc in absurd (omega arith)
nexts-taken (spoilt e) h m q n = let z : ◌≡◌ {A = ℕ} 0 1 = cc in absurd (omega arith)
nexts-taken (part e l) h m q n = let z : ◌≡◌ {A = ℕ} 0 1 = cc in absurd (omega arith)
nexts-taken (whole {h = g} e l) h m q n =
    let k : g ≡ h = cc in
    record { looks = e ∙ ap Good k; size = n; fits = omega (arith, n, ap size_of k) }

-- what the code looks at is the zone from the place on
pub seen : (zone : List ℕ) (at : ℕ) {l k : Look} → l ≡ look_of (take (length zone - at) (drop at zone)) → l ≡ k → look_of (drop at zone) ≡ k
seen zone at e f = ap look_of (sym (whole-rest zone at)) ∙ sym e ∙ f

-- at a place: what is still to be done gives what was wanted
pub record Walking (c : Channel) (s : Station) (zone : List ℕ) (from : ℕ) (store₀ : List ℕ) (n : ℕ) (list₀ : List ℕ) (t : Station) (store list : List ℕ)
    (events at : ℕ) : Type 0 where
  pub new : List Event
  pub sized : Sized t
  pub going : Going c t zone at store list events
  pub judges : judged_all c s store₀ (split (drop from zone)).packets ≡ after new (judged_all c t store (split (drop at zone)).packets)
  pub bad : (split (drop at zone)).bad ≡ (split (drop from zone)).bad
  pub left : (split (drop at zone)).left ≡ (split (drop from zone)).left
  pub counted : events ≡ n + length new
  pub listed : list ≡ put list₀ (3 * n) (flat new)
  pub stored : length store ≡ length store₀

pub begins : (c : Channel) (s : Station) (zone : List ℕ) (from : ℕ) (store : List ℕ) (n : ℕ) (list : List ℕ) → Sized s
    → Going c s zone from store list n → Walking c s zone from store n list s store list n from
unfolding flat flat_map
begins c s zone from store n list z g =
    record {
      new = [];
      sized = z;
      going = g;
      judges = refl;
      bad = refl;
      left = refl;
      counted = omega arith;
      listed = sym (put-nil list (3 * n));
      stored = refl;
    }

module _ {c : Channel} {s : Station} {zone : List ℕ} {from : ℕ} {store₀ : List ℕ} {n : ℕ} {list₀ : List ℕ} {t : Station} {store list : List ℕ}
    {events at : ℕ} (W : Walking c s zone from store₀ n list₀ t store list events at) where
  pub same-list : length list ≡ length list₀
  same-list = ap length W.listed ∙ length-put list₀ (3 * n) (flat W.new)

  -- no whole packet is left
  stops : (b : Bool) → (split (drop at zone)).packets ≡ [] → (split (drop at zone)).bad ≡ b → (b ≡ false → drop at zone ≡ (split (drop at zone)).left)
      → Stops c s zone from store₀ n list₀ t events at b store list
  unfolding judged_all
  stops b e f g =
      let all : judged_all c s store₀ (split (drop from zone)).packets ≡ gives t store W.new =
      W.judges ∙ ap (λ (ps : List (List ℕ)). after W.new (judged_all c t store ps)) e ∙ ap (gives t store) (append-nil W.new) in
      record {
        told = rw all (tells-gives t store W.new W.counted W.listed);
        spoilt = sym f ∙ W.bad;
        within = W.going.within;
        left = λ h. g h ∙ W.left;
      }

  stopped : {x : Next} → Nexts (drop at zone) x → (b : Bool) → x ≡ End b
      → Stops c s zone from store₀ n list₀ t events at b store list
  stopped (short e) b q =
      let k = split-short (drop at zone) e in
      let z : false ≡ b = cc in
      stops b (ap (λ (sp : Split). sp.packets) k) (ap (λ (sp : Split). sp.bad) k ∙ z) (λ h. sym (ap (λ (sp : Split). sp.left) k))
  stopped (spoilt e) b q =
      let k = split-bad (drop at zone) e in
      let z : true ≡ b = cc in
      stops b (ap (λ (sp : Split). sp.packets) k) (ap (λ (sp : Split). sp.bad) k ∙ z) (λ h. absurd (true≢false (z ∙ h)))
  stopped (part e l) b q =
      let k = split-part (drop at zone) e l in
      let z : false ≡ b = cc in
      stops b (ap (λ (sp : Split). sp.packets) k) (ap (λ (sp : Split). sp.bad) k ∙ z) (λ h. sym (ap (λ (sp : Split). sp.left) k))
  stopped (whole e l) b q = let z : ◌≡◌ {A = ℕ} 0 1 = cc in absurd (omega arith)

  pub stops-here : {b : Bool} {x : Next} → x ≡ next_of (drop at zone) → x ≡ End b
      → Stops c s zone from store₀ n list₀ t events at b store list
  stops-here {b} e f = stopped (nexts-as (drop at zone)) b (sym e ∙ f)

  pub taken : {h : Packet} {m : ℕ} {x : Next} → x ≡ next_of (drop at zone) → x ≡ Take h → m ≡ size_of h → Taken (drop at zone) h m
  taken {h} {m} e f = nexts-taken (nexts-as (drop at zone)) h m (sym e ∙ f)

  -- the packet of m octets at the place
  module _ {h : Packet} {m : ℕ} (T : Taken (drop at zone) h m) where
    cut : take (at + m - at) (drop at zone) ≡ take (size_of h) (drop at zone)
    cut =
        let k : at + m - at ≡ size_of h = omega (arith, T.size) in
        ap (λ (i : ℕ). take i (drop at zone)) k

    fits : size_of h ≤ length (drop at zone)
    fits = omega (arith, T.size, T.fits)

    pub inside : at + m ≤ length zone
    inside = omega (arith, T.fits, length-drop at zone, W.going.within)

    pub smallest : 7 ≤ m
    smallest = omega (arith, T.size, (look-good (drop at zone) h T.looks).smallest)

    pub packet-here : Whole (take (at + m - at) (drop at zone))
    packet-here = rw cut (packet-whole (drop at zone) T.looks fits)

    pub header-here : h ≡ packet_of (take (at + m - at) (drop at zone))
    header-here = rw cut (packet-header (drop at zone) T.looks fits)

    size-here : length (take (at + m - at) (drop at zone)) ≡ m
    size-here = ap length cut ∙ length-take-le (size_of h) (drop at zone) fits ∙ sym T.size

    -- a packet that gives no event, and one that only gives an event
    module _ {x : Ruling} (e : x ≡ ruling_of c t.blocks t.slots (take (at + m - at) (drop at zone))) where
      pub skips : x ≡ Skips → TellsJudged (judged c t store (take (at + m - at) (drop at zone))) events list t events store list
      skips f = tells_as (ruled-skips c t store (take (at + m - at) (drop at zone)) (sym e ∙ f)) (tells_none t store events list)

      pub says : {k : ℕ} → x ≡ Says k → {i : ℕ} {listed : List ℕ} → i ≡ events + 1
          → listed ≡ put list (3 * events) (k ∷ h.application.0 ∷ 0 ∷ [])
          → TellsJudged (judged c t store (take (at + m - at) (drop at zone))) events list t i store listed
      says {k} f q l =
          tells_as
          (ruled-says c t store (take (at + m - at) (drop at zone)) (sym e ∙ f)
          ∙ ap (λ (g : Packet). gives t store (of k g.application.0 ∷ [])) (sym header-here))
          (tells-one t store (of k h.application.0) q l)

    -- there is room for the three events of the packet
    pub ready : Ready t store list events 3
    ready =
        record {
          sound = W.going.sound;
          owners = W.going.owners;
          blocks = W.going.stored;
          enough =
              elim W.going.room [
                | by-octets l ↦ omega (arith, T.fits, smallest)
                | by-packet w l ↦ l
                | by-none e ↦ absurd (omega (arith, T.fits, smallest))
              ];
        }

    -- and then for those of what is left
    room-on : {listed : List ℕ} {k : ℕ} → length listed ≡ length list → k ≤ m → (i : ℕ) → 3 * i ≤ k → Room listed (events + i) (drop (at + m) zone)
    room-on same l i e =
        elim W.going.room [
          | by-octets q ↦ by-octets (omega (arith, q, T.fits, length-drop at zone, length-drop (at + m) zone))
          | by-packet w q ↦
              by-none
              (omega (arith, w.all, T.size, T.fits, length-drop at zone, length-drop (at + m) zone, ap size_of (look-good (drop at zone) h T.looks).is))
          | by-none q ↦ absurd (omega (arith, T.fits, smallest))
        ]

    pub turns : {u : Station} {k : ℕ} {stored listed : List ℕ}
        → TellsJudged (judged c t store (take (at + m - at) (drop at zone))) events list u k stored listed
        → Walking c s zone from store₀ n list₀ u stored listed k (at + m)
    turns u =
        let p = take (at + m - at) (drop at zone) in
        let j = judged c t store p in
        let g = W.going in
        let next : drop (size_of h) (drop at zone) ≡ drop (at + m) zone = ap (λ (i : ℕ). drop i (drop at zone)) (sym T.size) ∙ drop-drop m at zone in
        let k : split (drop at zone) ≡ behind p (split (drop (at + m) zone)) =
        split-whole (drop at zone) T.looks fits ∙ ap₂ (λ (q xs : List ℕ). behind q (split xs)) (sym cut) next in
        rw (u.station, u.events, u.wrote, u.listed)
        record {
          new = W.new ++ j.events;
          sized = judged-sized c t store p W.sized;
          going =
              record {
                sound = judged-sound c t store p W.sized g.sound g.watched;
                owners = (judged-stays c t store p).owners ∙ g.owners;
                watched = stays-watched (judged-stays c t store p) g.watched;
                within = inside;
                short = g.short;
                stored = judged-store c t store p ∙ g.stored ∙ ap (λ (b : ℕ). 8190 * b) (sym (judged-stays c t store p).blocks);
                room =
                    room-on (length-put list (3 * events) (flat j.events)) (omega (arith, size-here)) (length j.events)
                    (few c t store p packet-here);
              };
          judges =
              W.judges
              ∙ ap (after W.new)
              (ap (λ (sp : Split). judged_all c t store sp.packets) k ∙ all_first c t store p (split (drop (at + m) zone)).packets)
              ∙ after-after W.new j.events (judged_all c j.station j.store (split (drop (at + m) zone)).packets);
          bad = sym (ap (λ (sp : Split). sp.bad) k) ∙ W.bad;
          left = sym (ap (λ (sp : Split). sp.left) k) ∙ W.left;
          counted = omega (arith, W.counted, length-append W.new j.events);
          listed =
              ap (λ (xs : List ℕ). put xs (3 * events) (flat j.events)) W.listed
              ∙ ap (λ (i : ℕ). put (put list₀ (3 * n) (flat W.new)) (3 * i) (flat j.events)) W.counted
              ∙ flat-behind W.new j.events list₀ n;
          stored = judged-store c t store p ∙ W.stored;
        }
