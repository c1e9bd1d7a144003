-- The runs of specs/Losses.antt give what is said there: each frame by the case of history's specs/Openings.antt that holds, and by nothing
-- else of the station's reading. Assumes nothing.
use Rattle.std.specs.Prelude.{Ok}
use mathlib.Core.Path.{◌≡◌, refl, sym, ap, ap₂, subst, ◌∙◌}
use mathlib.Core.Bool.{false≢true}
use mathlib.Core.Logic.{◌⊎◌, inl, inr, ⊎_elim}
use mathlib.Core.List.{List, [], ◌∷◌, ◌++◌, append-nil, append_assoc, flatten}
use Prim.Native.Nat.{ℕ, ◌+◌, ◌-◌, ◌/◌, ◌≤◌, ◌<◌}
use native.Mathlib.Omega.{arith}
use borrow.Author.Tests.{le-ltb, ne_eqb}
use lib.ListN.{length, take, drop, get_or, replicate, length-append, drop_of_length-le}
use lib.Seq.{drop_at}
use Rattle.octets.specs.Number.{number, bits_at}
use Rattle.frame.specs.declared.Accepted.{Accepted}
use Rattle.frame.specs.declared.Channel.{Channel}
use Rattle.frame.specs.declared.Frame.{Frame}
use Rattle.noise.proofs.Mixing.{mixed-twice}
use Rattle.frame.specs.Header.{derandomised, frame_of}
use Rattle.frame.proofs.Answers.{of-header, pointer-good}
use Rattle.packet.specs.declared.Packet.{Packet}
use Rattle.packet.specs.declared.Look.TheVariants as look
use Rattle.packet.specs.Header.{packet_of, size_of, bad, look_of}
use Rattle.packet.proofs.Looks.{look-good}
use Rattle.state.specs.declared.Slot.{Slot}
use Rattle.state.specs.declared.Station.{Station}
use Rattle.state.specs.Slots.{no_file, held, incomplete, of_pair}
use Rattle.state.specs.Blocks.{needs}
use Rattle.transport.specs.Length.{octets_of_bits, transport_size, need}
use Rattle.room.specs.Find.{free_from, file_from}
use Rattle.events.specs.Event.{Event, bare}
use Rattle.judge.specs.Contract.{Whole}
use Rattle.zone.specs.Zone.{Unfinished}
use Rattle.zone.specs.Zone.Unfinished.{header, packet}
use Rattle.zone.specs.Walk.{judged_all}
use Rattle.zone.proofs.Walks.{all-stays}
use Rattle.station.specs.SetUp.{SetUpOutcome, channel_of, fresh_station}
use Rattle.station.specs.Frame.{channel_at}
use Rattle.station.proofs.Calls.{set_up-outcome}
use Rattle.history.specs.Run.{World, Call, answer, after, Start, fresh, SoundWorld}
use Rattle.history.specs.Run.Call.{frame}
use Rattle.history.specs.Things.{examined_in, said}
use Rattle.history.specs.Openings.{counter_in, pointer_in, zone_in, OnDesk, on_desk, leaving, Lacks, Carried, Dropped, Opens, Closes}
use Rattle.history.specs.Openings.Dropped.{by-gap, none-held, by-header, by-pointer}
use Rattle.history.specs.Openings.Opens.{carries-on, begins-anew}
use Rattle.history.specs.Openings.Closes.{to_end, to-bad}
use Rattle.history.specs.Heard.{unheard}
use Rattle.history.proofs.Refused.{every-answer}
use Rattle.history.proofs.Moments.{frame-taken}
use Rattle.history.proofs.Sound.{fresh-sound, after-sound, sound-takes}
use Rattle.history.proofs.Openings.{desk-then, station-then, said-then}
use Rattle.history.proofs.Channels.{fresh-unheard}
use Rattle.guards.specs.Sent.{Program, plain, sent, all_said, fill, whole}
use Rattle.guards.specs.Losses.{ten_held, whole_behind, nine, ten, jumped, bad_header, opens_at, Losses, LossRuns}
use Rattle.guards.proofs.Sending.{four, accepts, header-sent, sent-plain, sent-framed, sent-good, zone-sent, Makes, makes_none}
use Rattle.guards.proofs.Making.{MakesOne, makes-then}
use Rattle.guards.proofs.Packets.{head_of, header-look, file_at, fill-makes, fill-size, whole-opens}

-- a station of spacecraft 1 with channels 0 to 3 and seven blocks, whose files are xs; the desk of channel 2 is as said
record Waits (w : World) (d : OnDesk) (xs : List Slot) : Type 0 where
  sound : SoundWorld w
  craft : w.station.spacecraft ≡ 1
  channels : w.station.channels ≡ 4
  watched : w.station.watched ≡ four
  blocks : w.station.blocks ≡ 7
  slots : w.station.slots ≡ xs
  desk : on_desk w 2 ≡ d

-- what a call leaves, and what it says
abbrev Leaves : World → Call → OnDesk → List Slot → List Event → Type 0
Leaves w c d xs es = Waits (after w c) d xs × (said w c ≡ es)

-- the fresh station of the program
pub fresh-is : (x : Start) → Program x → (fresh x).station ≡ fresh_station 1 (0 ∷ 1 ∷ 2 ∷ 3 ∷ []) 7
fresh-is x p =
    let k : length x.store / 8190 ≡ 7 = omega (arith, p.store) in
    ap (λ (o : SetUpOutcome). o.station) ((set_up-outcome x.spacecraft x.channels x.desks x.store).done x.good)
    ∙ rw (p.spacecraft, p.channels, k) refl

fresh-waits : (x : Start) → Program x → Waits (fresh x) unheard (replicate 32 no_file)
unfolding fresh_station
fresh-waits x p =
    let is = fresh-is x p in
    record {
      sound = fresh-sound x;
      craft = ap (λ (s : Station). s.spacecraft) is;
      channels = ap (λ (s : Station). s.channels) is;
      watched = ap (λ (s : Station). s.watched) is;
      blocks = ap (λ (s : Station). s.blocks) is;
      slots = ap (λ (s : Station). s.slots) is;
      desk = fresh-unheard x 2;
    }

-- a frame that is sent says what it was sent with
record Says (f : List ℕ) (n p : ℕ) (zone : List ℕ) : Type 0 where
  counter : counter_in f ≡ n
  pointer : pointer_in f ≡ p
  octets : zone_in f ≡ zone

module _ (n p : ℕ) (zone : List ℕ) (low : n < 256) (points : (p < 884) ⊎ (p ≡ 2047)) (size : length zone ≡ 884) where
  sent-says : Says (sent n p zone) n p zone
  sent-says =
      let is = ap frame_of (sent-plain 2 n p zone (omega arith) low points) ∙ header-sent 2 n p zone (omega arith) low points in
      record {
        counter = ap (λ (x : Frame). x.counter.0) is;
        pointer = ap (λ (x : Frame). x.pointer) is;
        octets = zone-sent 2 n p zone (omega arith) low points size;
      }

  -- what a frame brings, by the case that holds
  module _ {w : World} {d : OnDesk} {xs : List Slot} (L : Waits w d xs) (list : List ℕ) (room : 900 ≤ length list) where
    good : examined_in w (sent n p zone) ≡ Ok (accepts n p)
    good =
        rw (L.craft, L.channels, L.watched)
        (of-header 1 (take 4 four) (sent n p zone) (sent-framed 2 n p zone (omega arith) low points size) ∙ sent-good 2 n p zone (omega arith) low points size)

    step : {es zs js : List Event} {ys held : List ℕ} {xs' : List Slot} (ps : List (List ℕ)) → Opens d (sent n p zone) es ys → Closes ys ps held zs
        → Makes xs ps xs' js → Leaves w (frame (sent n p zone) list) (leaving held n) xs' (es ++ js ++ zs)
    step {es} {zs} {ys = ys} {held = kept} ps o c does =
        let f = sent n p zone in
        let s = w.station in
        let (t, same) = sound-takes L.sound f list good room in
        let here : 2 ≡ t.frame.desk = sym (ap (λ (a : Accepted). a.desk) same) in
        let its : channel_at s t.frame.desk ≡ channel_of 2 =
        ap (channel_at s) (sym here) ∙ ap (λ (cs : List Channel). get_or cs 2 (channel_of 0)) L.watched in
        let o' : Opens (on_desk w t.frame.desk) f es ys =
        subst (λ (x : OnDesk). Opens x f es ys) (sym L.desk ∙ ap (on_desk w) here) o in
        let made = does.from s w.store L.slots L.blocks in
        let j = judged_all (channel_at s t.frame.desk) s w.store ps in
        let a = all-stays (channel_at s t.frame.desk) s w.store ps in
        let is = station-then L.sound t ps o' c in (
          record {
            sound = after-sound L.sound (frame f list);
            craft = ap (λ (x : Station). x.spacecraft) is ∙ a.spacecraft ∙ L.craft;
            channels = ap (λ (x : Station). x.channels) is ∙ a.channels ∙ L.channels;
            watched = ap (λ (x : Station). x.watched) is ∙ a.watched ∙ L.watched;
            blocks = ap (λ (x : Station). x.blocks) is ∙ a.blocks ∙ L.blocks;
            slots = ap (λ (x : Station). x.slots) is ∙ ap (λ (ch : Channel). (judged_all ch s w.store ps).station.slots) its ∙ made.0;
            desk = ap (on_desk (after w (frame f list))) here ∙ desk-then L.sound t ps o' c ∙ ap (leaving kept) sent-says.counter;
          },
          said-then L.sound t ps o' c
              ∙ ap (λ (ks : List Event). es ++ ks ++ zs) (ap (λ (ch : Channel). (judged_all ch s w.store ps).events) its ∙ made.1),
        )

-- packets in front of what is left
whole-if : (p : List ℕ) {h : Packet} → look_of p ≡ look.Good h → length p ≡ size_of h → Whole p
whole-if p {h} e l =
    let is : h ≡ packet_of p = (look-good p h e).is in
    record { good = e ∙ ap look.Good is; all = l ∙ ap size_of is }

fill-whole : (n : ℕ) → 9 ≤ n → n ≤ 884 → Whole (fill n)
fill-whole n some most =
    whole-if (fill n)
    (header-look 7 255 2047 3 0 (n - 7) (omega arith) (omega arith) (omega arith) (omega arith) (omega arith) (omega arith) (omega arith)
    (replicate (n - 6) 0))
    (omega (arith, fill-size n some most))

whole-look : (xs : List ℕ) → look_of (take 10 whole ++ xs) ≡ look.Good (head_of 5 3 0 12)
whole-look xs =
    header-look 0 5 5 3 0 12 (omega arith) (omega arith) (omega arith) (omega arith) (omega arith) (omega arith) (omega arith)
    (take 4 (drop 6 whole) ++ xs)

whole-whole : Whole whole
whole-whole = whole-if whole (whole-look nine) refl

bad-look : (xs : List ℕ) → look_of (bad_header ++ xs) ≡ look.Bad
unfolding look_of packet_of bad bits_at number
bad-look xs = rw (le-ltb (length (bad_header ++ xs)) 6 (omega arith))

-- octets that are a whole packet and fill, and octets that are fill and the beginning of a packet
behind-whole : (n : ℕ) → 9 ≤ n → n ≤ 884 → Closes (whole ++ fill n) (whole ∷ fill n ∷ []) [] []
unfolding flatten
behind-whole n some most =
    to_end {held = []} (whole-whole, (fill-whole n some most, tt)) (header (omega arith))
    (append-nil (whole ++ fill n ++ []) ∙ ap (λ (xs : List ℕ). whole ++ xs) (append-nil (fill n)))

after-fill : (n : ℕ) → 9 ≤ n → n ≤ 884 → (xs : List ℕ) → Unfinished xs → Closes (fill n ++ xs) (fill n ∷ []) xs []
unfolding flatten
after-fill n some most xs u = to_end (fill-whole n some most, tt) u (ap (λ (ys : List ℕ). ys ++ xs) (append-nil (fill n)))

-- what they make of the files
abbrev none : List Slot
none = replicate 32 no_file

abbrev one : List Slot
one = file_at 5 8 0 ∷ replicate 31 no_file

abbrev two : List Slot
two = file_at 5 8 0 ∷ file_at 5 8 0 ∷ replicate 30 no_file

opens-first : MakesOne none whole one (opens_at 0)
unfolding need transport_size octets_of_bits file_from free_from of_pair held incomplete needs
opens-first = whole-opens 5 (omega arith) none refl refl (omega arith)

opens-second : MakesOne one whole two (opens_at 1)
unfolding need transport_size octets_of_bits file_from free_from of_pair held incomplete needs
opens-second = whole-opens 5 (omega arith) one refl refl (omega arith)

with-fill : {xs ys : List Slot} {es : List Event} (n : ℕ) → 9 ≤ n → n ≤ 884 → MakesOne xs whole ys es → Makes xs (whole ∷ fill n ∷ []) ys es
with-fill {xs} {ys} {es} n some most does =
    subst (Makes xs (whole ∷ fill n ∷ []) ys) (append-nil es) (makes-then does (makes-then (fill-makes n some most ys) (makes_none ys)))

-- frames that are sent open as they say
module _ {f : List ℕ} {n p : ℕ} {zone : List ℕ} (s : Says f n p zone) (d : OnDesk) where
  anew : {es : List Event} → Dropped d f es → (ys : List ℕ) → drop p zone ≡ ys → Opens d f es ys
  anew {es} c ys e = subst (Opens d f es) (ap₂ drop s.pointer s.octets ∙ e) (begins-anew c)

  onward : Carried d f → Opens d f [] (d.held ++ zone)
  onward c = subst (Opens d f []) (ap (λ (ys : List ℕ). d.held ++ ys) s.octets) (carries-on c)

-- two frames, one after the other
both-said : (w : World) (c e : Call) {es fs : List Event} → said w c ≡ es → said (after w c) e ≡ fs → all_said w (c ∷ e ∷ []) ≡ es ++ fs
unfolding all_said
both-said w c e q r = ap₂ ◌++◌ q (append-nil (said (after w c) e) ∙ r)

-- a frame that is sent with pointer 884 is refused
beyond : (n : ℕ) (zone : List ℕ) → pointer_in (sent n 884 zone) ≡ 884
unfolding derandomised frame_of bits_at number
beyond n zone =
    let p : bits_at (take 8 (plain 2 n 884 zone)) 53 11 ≡ 884 = omega arith in
    ap (λ (xs : List ℕ). (frame_of xs).pointer) (mixed-twice (plain 2 n 884 zone)) ∙ p

pointed-beyond : (w : World) (f list : List ℕ) → pointer_in f ≡ 884 → (after w (frame f list) ≡ w) × (said w (frame f list) ≡ [])
unfolding said
pointed-beyond w f list e =
    let s = w.station in
    let ws = take s.channels s.watched in
    let not-0 : answer w (frame f list) ≡ 0 → ⊥ =
    λ z.
    let t = frame-taken w f list z in
    ⊎_elim (λ l. omega (arith, l)) (λ l. omega (arith, l)) (pointer-good s.spacecraft ws f t.frame t.good) in
    (((every-answer w (frame f list)).refused not-0).world, rw (ne_eqb (answer w (frame f list)) 0 not-0))

-- the zone of a frame with a whole packet behind some octets, and what the frame says
abbrev zone_behind : List ℕ → List ℕ
zone_behind front = front ++ whole ++ fill (865 - length front)

module _ (front : List ℕ) (few : length front ≤ 856) where
  behind-size : length (zone_behind front) ≡ 884
  behind-size =
      let m = 865 - length front in
      omega (arith, length-append (front ++ whole) (fill m), length-append front whole, fill-size m (omega arith) (omega arith))

  behind-says : (n : ℕ) → n < 256 → Says (sent n (length front) (zone_behind front)) n (length front) (zone_behind front)
  behind-says n low = sent-says n (length front) (zone_behind front) low (inl (omega arith)) behind-size

module _ (list : List ℕ) (room : 900 ≤ length list) where
  -- its packet is read, after a drop or with nothing held
  behind : {w : World} {d : OnDesk} {xs ys : List Slot} {es js : List Event} (n : ℕ) → n < 256 → (front : List ℕ) → length front ≤ 856 → Waits w d xs
      → ((f : List ℕ) → Says f n (length front) (zone_behind front) → Dropped d f es)
      → MakesOne xs whole ys js → said w (whole_behind n front list) ≡ es ++ js
  behind {d = d} {es = es} {js} n low front few L c does =
      let m = 865 - length front in
      let s = behind-says front few n low in
      let at : drop (length front) (zone_behind front) ≡ whole ++ fill m =
      ap (drop (length front)) (append_assoc front whole (fill m)) ∙ drop_at front (whole ++ fill m) (length front) refl in
      (step n (length front) (zone_behind front) low (inl (omega arith)) (behind-size front few) L list room (whole ∷ fill m ∷ [])
      (anew s d (c (sent n (length front) (zone_behind front)) s) (whole ++ fill m) at)
      (behind-whole m (omega arith) (omega arith)) (with-fill m (omega arith) (omega arith) does)).1
      ∙ append-nil (es ++ js)

  module _ (x : Start) (q : Program x) where
    -- the first frame, read from its pointer on
    starts : {held : List ℕ} {zs js : List Event} {xs : List Slot} (p : ℕ) → (p < 884) ⊎ (p ≡ 2047) → (zone ys : List ℕ) → length zone ≡ 884
        → drop p zone ≡ ys → (ps : List (List ℕ)) → Closes ys ps held zs → Makes none ps xs js
        → Leaves (fresh x) (frame (sent 0 p zone) list) (leaving held 0) xs (js ++ zs)
    starts p points zone ys size at ps c does =
        step 0 p zone (omega arith) points size (fresh-waits x q) list room ps
        (anew (sent-says 0 p zone (omega arith) points size) unheard (none-held (λ e. absurd (false≢true e)) refl) ys at) c does

    -- fill, and octets that are held then
    begins-with : (m : ℕ) → 9 ≤ m → (xs : List ℕ) → m + length xs ≡ 884 → Unfinished xs
        → Leaves (fresh x) (frame (sent 0 0 (fill m ++ xs)) list) (leaving xs 0) none []
    begins-with m some xs all u =
        let most : m ≤ 884 = omega arith in
        let zone = fill m ++ xs in
        starts 0 (inl (omega arith)) zone zone (omega (arith, length-append (fill m) xs, fill-size m some most)) refl (fill m ∷ [])
        (after-fill m some most xs u) (makes-then (fill-makes m some most none) (makes_none none))

    -- ten octets of a packet of nineteen
    ten-held : Leaves (fresh x) (ten_held list) (leaving (take 10 whole) 0) none []
    ten-held = begins-with 874 (omega arith) (take 10 whole) refl (packet (whole-look []) (omega arith))

    lacks-nine : {f : List ℕ} {p : ℕ} {zone : List ℕ} → Says f 1 p zone → Lacks (leaving (take 10 whole) 0) f 9
    lacks-nine {f} s =
        record { some = omega arith; follows = omega (arith, s.counter); header = head_of 5 3 0 12; good = whole-look (zone_in f); size = refl }

    then-ten : (c : Call) {es : List Event} → said (after (fresh x) (ten_held list)) c ≡ es → all_said (fresh x) (ten_held list ∷ c ∷ []) ≡ es
    then-ten c = both-said (fresh x) (ten_held list) c ten-held.1

    carries : said (after (fresh x) (ten_held list)) (whole_behind 1 nine list) ≡ opens_at 0 ++ opens_at 1
    unfolding flatten
    carries =
        let s = behind-says nine (omega arith) 1 (omega arith) in
        let all : flatten (whole ∷ whole ∷ fill 856 ∷ []) ++ [] ≡ take 10 whole ++ zone_behind nine =
        ap (λ (xs : List ℕ). whole ++ whole ++ xs) (append-nil (fill 856 ++ []) ∙ append-nil (fill 856)) in
        (step 1 9 (zone_behind nine) (omega arith) (inl (omega arith)) (behind-size nine (omega arith)) ten-held.0 list room
        (whole ∷ whole ∷ fill 856 ∷ [])
        (onward s (leaving (take 10 whole) 0) (record { lacked = 9; lacks = lacks-nine s; pointer = inl (omega arith, s.pointer) }))
        (to_end {held = []} (whole-whole, (whole-whole, (fill-whole 856 (omega arith) (omega arith), tt))) (header (omega arith)) all)
        (makes-then opens-first (with-fill 856 (omega arith) (omega arith) opens-second))).1

    -- a bad header in the middle
    spoilt : Leaves (fresh x) (frame (sent 0 0 (whole ++ bad_header ++ whole ++ fill 840)) list) (leaving [] 0) one (opens_at 0 ++ (bare 3 ∷ []))
    unfolding flatten
    spoilt =
        let zone = whole ++ bad_header ++ whole ++ fill 840 in
        let size : length zone ≡ 884 = omega (arith, length-append (whole ++ bad_header ++ whole) (fill 840), fill-size 840 (omega arith) (omega arith)) in
        starts 0 (inl (omega arith)) zone zone size refl (whole ∷ [])
        (to-bad (bad_header ++ whole ++ fill 840) (whole-whole, tt) (bad-look (whole ++ fill 840)) refl)
        (makes-then opens-first (makes_none one))

    -- no place to begin
    silent : Leaves (fresh x) (frame (sent 0 2047 (zone_behind [])) list) (leaving [] 0) none []
    unfolding flatten
    silent =
        let size = behind-size [] (omega arith) in
        starts 2047 (inr refl) (zone_behind []) [] size (drop_of_length-le (zone_behind []) {i = 2047} (omega arith)) []
        (to_end {held = []} tt (header (omega arith)) refl) (makes_none none)

    -- with nothing held and no frame missing
    next : {p : ℕ} {zone : List ℕ} (f : List ℕ) → Says f 1 p zone → Dropped (leaving [] 0) f []
    next f s = none-held (λ e. omega (arith, s.counter)) refl

    after-a-gap : said (after (fresh x) (ten_held list)) (whole_behind jumped nine list) ≡ bare 1 ∷ opens_at 0
    after-a-gap =
        behind jumped (omega arith) nine (omega arith) ten-held.0 (λ f s. by-gap refl (λ e. omega (arith, e, s.counter))) opens-first

    losses : Losses x list
    unfolding all_said
    losses =
        let three = begins-with 881 (omega arith) (take 3 bad_header) refl (header (omega arith)) in
        record {
          carried = then-ten (whole_behind 1 nine list) carries;
          gap = then-ten (whole_behind jumped nine list) after-a-gap;
          off-pointer =
              then-ten (whole_behind 1 ten list)
              (behind 1 (omega arith) ten (omega arith) ten-held.0
              (λ f s. by-pointer 9 (lacks-nine s) (⊎_elim (λ a. omega (arith, a.1, s.pointer)) (λ a. omega (arith, a.0)))) opens-first);
          bad-carried =
              both-said (fresh x) (frame (sent 0 0 (fill 881 ++ take 3 bad_header)) list) (whole_behind 1 (drop 3 bad_header) list) three.1
              (behind 1 (omega arith) (drop 3 bad_header) (omega arith) three.0
              (λ f s.
              by-header (omega arith) (omega (arith, s.counter))
              (ap (λ (xs : List ℕ). look_of (take 3 bad_header ++ xs)) s.octets ∙ bad-look (whole ++ fill 862)))
              opens-first);
          bad-later =
              both-said (fresh x) (frame (sent 0 0 (whole ++ bad_header ++ whole ++ fill 840)) list) (whole_behind 1 [] list) spoilt.1
              (behind 1 (omega arith) [] (omega arith) spoilt.0 next opens-second);
          idle =
              both-said (fresh x) (frame (sent 0 2047 (zone_behind [])) list) (whole_behind 1 [] list) silent.1
              (behind 1 (omega arith) [] (omega arith) silent.0 next opens-first);
          refused =
              let w = after (fresh x) (ten_held list) in
              let c = frame (sent 1 884 (zone_behind nine)) list in
              let (same, none_said) = pointed-beyond w (sent 1 884 (zone_behind nine)) list (beyond 1 (zone_behind nine)) in
              ap₂ ◌++◌ ten-held.1
              (both-said w c (whole_behind jumped nine list) none_said (ap (λ (v : World). said v (whole_behind jumped nine list)) same ∙ after-a-gap));
          first_frame =
              append-nil (said (fresh x) (whole_behind 7 [] list))
              ∙ behind 7 (omega arith) [] (omega arith) (fresh-waits x q) (λ f s. none-held (λ e. absurd (false≢true e)) refl) opens-first;
        }

pub loss-runs : LossRuns
loss-runs x q list room = losses list room x q
