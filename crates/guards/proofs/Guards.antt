-- The runs of specs/Guards.antt give what is said there. Assumes nothing.
use Rattle.std.specs.Prelude.{Ok}
use mathlib.Core.Path.{◌≡◌, refl, sym, ap, ap₂, subst, ◌∙◌}
use mathlib.Core.Bool.{true}
use mathlib.Core.Logic.{inl, inr}
use mathlib.Core.List.{List, [], ◌∷◌, ◌++◌, flatten, append-nil, append_assoc}
use Prim.Native.Nat.{ℕ, zero, suc, ◌+◌, ◌-◌, ◌/◌, ◌%◌, ◌≤◌, ◌<◌}
use native.Mathlib.Omega.{arith}
use borrow.Author.Tests.{eq-eqb, le-leb, ltb-true, leb-true}
use lib.Dec.{ltb, leb}
use lib.ListN.{length, drop, get_or, set, replicate, length-append, length-replicate}
use Rattle.transport.specs.declared.Transport.{Transport}
use Rattle.transport.specs.Length.{good_length, octets_of_bits, transport_size, need, rest}
use Rattle.records.specs.Reader.{read_header}
use Rattle.records.proofs.Examples.{alone-read, one-octet}
use Rattle.state.specs.declared.Slot.{Slot}
use Rattle.state.specs.declared.Station.{Station}
use Rattle.state.specs.Slots.{no_file, empty_desk, desk_at, slot_at, held, complete, incomplete, of_pair}
use Rattle.state.specs.Blocks.{needs}
use Rattle.state.specs.Decision.{among, distinct_channels, good_channels}
use Rattle.octets.specs.Each.{each}
use Rattle.octets.specs.Number.{Octets}
use Rattle.octets.proofs.Tests.{and_both, and_left, and_right}
use Rattle.refusals.specs.Refusals.{refuse}
use Rattle.noise.proofs.Mixing.{octets-mixed}
use Rattle.room.specs.Find.{free_from, file_from}
use Rattle.room.specs.Move.{let_go}
use Rattle.events.specs.Event.{Event, of, at}
use Rattle.judge.specs.Judge.{data_of}
use Rattle.judge.specs.Packets.{Starts}
use Rattle.zone.specs.Zone.{split}
use Rattle.zone.specs.Walk.{desk_after, gap}
use Rattle.zone.proofs.Readings.{reading-first}
use Rattle.station.specs.SetUp.{channel_of, fresh_station, set_up}
use Rattle.station.specs.Files.{freed, file_let_go}
use Rattle.station.proofs.Fresh.{fresh-desk}
use Rattle.station.proofs.Calls.{set_up-zero, let_go-outcome, let_go-zero, read-zero}
use Rattle.history.specs.Run.{World, Call, answer, after, run, Start, fresh}
use Rattle.history.specs.Run.Call.{frame, read, let-go}
use Rattle.history.specs.Calls.{reported, told_in}
use Rattle.history.specs.Things.{said}
use Rattle.history.specs.Things.Thing.{packet, left}
use Rattle.history.specs.Store.{Moment}
use Rattle.history.proofs.Sound.{fresh-sound, world-sound, after-sound}
use Rattle.history.proofs.LetGo.{reports}
use Rattle.guards.specs.Sent.{Program, plain, sent_on, sent, ten_frames_on, ten_frames, all_said, checked, long, first, middle, tiny, last, fill, whole_of, whole, damaged, reserved, primary, twelve_bits}
use Rattle.guards.specs.Guards.{none_touched, good_header, part_of_an_octet, read_out, header_read_out, two_blocks, three_blocks, five_blocks, seven_blocks, published, two_packets, one_lost, held_file, needs_two, needs_three, needs_seven, let_go_early, freed_at_once, lower_slot, two_channels, Runs, Guards}
use Rattle.guards.proofs.Sending.{accepts, cut, ListensOn, Listens, MakesOn, Makes, makes_none, step, brings-packets, BringsOn, Brings}
use Rattle.guards.proofs.Losses.{fresh-is, loss-runs}
use Rattle.guards.proofs.Making.{MakesOneOn, MakesOne, makes-then}
use Rattle.guards.proofs.ReadOut.{read_out_lem, facts-told}
use Rattle.guards.proofs.Packets.{odd-cuts, damaged-makes, reserved-makes, ill-makes, Alone, written, whole-starts, six_of, head_of, header-look, file_on, file_at, ten, bits, long-size, carries, first-opens, first-refused, middle-adds, last-adds, last-ends, tiny-stray, tiny-before, tiny-ends, fill-makes, fill-size, fill-cuts, last-cuts, whole-cuts, whole-head, whole-opens, whole-over}

-- calls before calls
run-then : (w : World) (cs ds : List Call) → run w (cs ++ ds) ≡ run (run w cs) ds
unfolding run
run-then w [] ds = refl
run-then w (c ∷ cs) ds = run-then (after w c) cs ds

said-then : (w : World) (cs ds : List Call) → all_said w (cs ++ ds) ≡ all_said w cs ++ all_said (run w cs) ds
unfolding run all_said
said-then w [] ds = refl
said-then w (c ∷ cs) ds =
    ap (λ (es : List Event). said w c ++ es) (said-then (after w c) cs ds)
    ∙ sym (append_assoc (said w c) (all_said (after w c) cs) (all_said (run (after w c) cs) ds))

brings-then : {c d : ℕ} {w : World} {cs ds : List Call} {n m : ℕ} {ys zs : List Slot} {es fs : List Event} → BringsOn c w cs n ys es
    → ((v : World) → ListensOn c v n [] ys → BringsOn d v ds m zs fs) → BringsOn d w (cs ++ ds) m zs (es ++ fs)
brings-then {w = w} {cs = cs} {ds = ds} b f =
    let c = f (run w cs) b.listens in
    record {
      listens = rw (run-then w cs ds) c.listens;
      tells = said-then w cs ds ∙ ap₂ ◌++◌ b.tells c.tells;
    }

-- a channel above waits for its first frame
turns-to : {c n : ℕ} {ys : List Slot} (d : ℕ) → c < d → d < 4 → (w : World) → ListensOn c w n [] ys → ListensOn d w 0 [] ys
unfolding gap
turns-to d above low w L =
    let none = L.silent d above in
    record {
      named = low;
      sound = L.sound;
      craft = L.craft;
      channels = L.channels;
      watched = L.watched;
      blocks = L.blocks;
      slots = L.slots;
      seamless = rw none;
      holds = rw none;
      silent = λ i l. L.silent i (omega arith);
    }

-- the file in slot 0 is let go
let-go-brings : (n : ℕ) (x : Slot) (zs : List Slot) → held x ≡ true → (w : World) → Listens w n [] (x ∷ zs)
    → Brings w (let-go 0 ∷ []) n (no_file ∷ zs) []
unfolding run all_said after said let_go
let-go-brings n x zs there w L =
    let s = w.station in
    let here : held (slot_at s 0) ≡ true = rw L.slots there in
    let zero : (file_let_go s 0).answer ≡ 0 = (let_go-zero s 0).1 (world-sound L.sound, omega arith, here) in
    let is : file_let_go s 0 ≡ freed s 0 (complete (slot_at s 0)) = (let_go-outcome s 0).done zero in
    let listens : Listens (after w (let-go 0)) n [] (no_file ∷ zs) =
    rw is
    (record {
      named = L.named;
      sound = rw is at (after-sound L.sound (let-go 0));
      craft = L.craft;
      channels = L.channels;
      watched = L.watched;
      blocks = L.blocks;
      slots = ap (λ (xs : List Slot). set xs 0 no_file) L.slots;
      seamless = L.seamless;
      holds = L.holds;
      silent = L.silent;
    }) in
    record { listens = listens; tells = refl }

-- and whether it was complete is reported
let-go-reports : {n : ℕ} (x : Slot) {zs : List Slot} {w : World} → Listens w n [] (x ∷ zs) → reported w (let-go 0) ≡ complete x
let-go-reports x L = reports L.sound 0 (omega arith) ∙ ap (λ (ys : List Slot). complete (get_or ys 0 no_file)) L.slots

-- the fresh station of the program
module _ (x : Start) (p : Program x) where
  fresh-silent : (i : ℕ) → desk_at (fresh x).station i ≡ empty_desk
  fresh-silent i = ap (λ (s : Station). desk_at s i) (fresh-is x p) ∙ fresh-desk 1 (0 ∷ 1 ∷ 2 ∷ 3 ∷ []) 7 i

  -- every channel waits for its first frame
  fresh_on : (c : ℕ) → c < 4 → ListensOn c (fresh x) 0 [] (replicate 32 no_file)
  unfolding fresh_station gap
  fresh_on c low =
      record {
        named = low;
        sound = fresh-sound x;
        craft = ap (λ (s : Station). s.spacecraft) (fresh-is x p);
        channels = ap (λ (s : Station). s.channels) (fresh-is x p);
        watched = ap (λ (s : Station). s.watched) (fresh-is x p);
        blocks = ap (λ (s : Station). s.blocks) (fresh-is x p);
        slots = ap (λ (s : Station). s.slots) (fresh-is x p);
        seamless = rw (fresh-silent c);
        holds = rw (fresh-silent c);
        silent = λ i above. fresh-silent i;
      }

  pub fresh-listens : Listens (fresh x) 0 [] (replicate 32 no_file)
  fresh-listens = fresh_on 2 (omega arith)

abbrev none : List Slot
none = replicate 32 no_file

abbrev others : List Slot
others = replicate 31 no_file

module _ (list : List ℕ) (listed : 900 ≤ length list) where
  -- ten frames with a long packet: application a, flags f, count c
  long-brings : (a f c : ℕ) → a < 256 → f < 4 → c < 256 → (seed : List ℕ) → length seed ≤ 8188 → (n : ℕ) → n + 10 ≤ 256
      → (tail : List ℕ) → length tail ≡ 642 → (qs : List (List ℕ)) → split tail ≡ cut qs []
      → {ch : ℕ} {xs ys : List Slot} {es : List Event} → MakesOn ch xs (checked (six_of 0 a f c 8191) (long seed) ∷ qs) ys es
      → (w : World) → ListensOn ch w n [] xs
      → BringsOn ch w (ten_frames_on ch n (checked (six_of 0 a f c 8191) (long seed) ++ tail) list) (n + 10) ys es
  long-brings a f c low fs cs seed few n room tail size qs cuts does =
      carries (six_of 0 a f c 8191) (long seed) refl (long-size seed few) (head_of a f c 8191)
      (header-look 0 a a f c 8191 (omega arith) low (omega arith) fs cs (omega arith) (omega arith) [])
      n room tail list size listed refl qs cuts does

  -- a first packet with nothing but fill behind it
  alone : (a L n : ℕ) → a < 256 → n + 10 ≤ 256 → {c : ℕ} {xs ys : List Slot} {es : List Event} → MakesOneOn c xs (first a L) ys es
      → (w : World) → ListensOn c w n [] xs → BringsOn c w (ten_frames_on c n (first a L ++ fill 642) list) (n + 10) ys es
  alone a L n low room {c} {xs} {ys} {es} does =
      long-brings a 1 0 low (omega arith) (omega arith) (ten L) (omega arith) n room (fill 642) (fill-size 642 (omega arith) (omega arith))
      (fill 642 ∷ []) (fill-cuts 642 (omega arith) (omega arith))
      (subst (MakesOn c xs (first a L ∷ fill 642 ∷ []) ys) (append-nil es)
      (makes-then does (makes-then (fill-makes 642 (omega arith) (omega arith) ys) (makes_none ys))))

  -- one frame whose zone holds whole packets
  one-brings : (n : ℕ) → n < 256 → (zone : List ℕ) → length zone ≡ 884 → (ps : List (List ℕ)) → split zone ≡ cut ps []
      → {c : ℕ} {xs ys : List Slot} {es : List Event} → MakesOn c xs ps ys es
      → (w : World) → ListensOn c w n [] xs → BringsOn c w (frame (sent_on c n 0 zone) list ∷ []) (n + 1) ys es
  unfolding run all_said
  one-brings n low zone size ps cuts {c} does w L =
      let (v, t) = step L low 0 (inl (omega arith)) zone list size listed zone (reading-first zone) ps [] cuts (n + 1) refl does in
      record { listens = v; tells = append-nil (said w (frame (sent_on c n 0 zone) list)) ∙ t }

  -- a packet with nothing but fill behind it
  filled-brings : (n : ℕ) → n < 256 → (q : List ℕ) (m : ℕ) → 9 ≤ m → length q + m ≡ 884 → split (q ++ fill m) ≡ cut (q ∷ fill m ∷ []) []
      → {c : ℕ} {xs ys : List Slot} {es : List Event} → MakesOneOn c xs q ys es
      → (w : World) → ListensOn c w n [] xs → BringsOn c w (frame (sent_on c n 0 (q ++ fill m)) list ∷ []) (n + 1) ys es
  filled-brings n few q m some size cuts {c} {xs} {ys} {es} does =
      one-brings n few (q ++ fill m) (omega (arith, length-append q (fill m), fill-size m some (omega arith))) (q ∷ fill m ∷ []) cuts
      (subst (MakesOn c xs (q ∷ fill m ∷ []) ys) (append-nil es)
      (makes-then does (makes-then (fill-makes m some (omega arith) ys) (makes_none ys))))

  -- a whole packet of one octet
  whole-brings : (a n : ℕ) → a < 256 → n < 256 → {c : ℕ} {xs ys : List Slot} {es : List Event} → MakesOneOn c xs (whole_of a) ys es
      → (w : World) → ListensOn c w n [] xs → BringsOn c w (frame (sent_on c n 0 (whole_of a ++ fill 865)) list ∷ []) (n + 1) ys es
  whole-brings a n low few = filled-brings n few (whole_of a) 865 (omega arith) refl (whole-cuts 865 (omega arith) (omega arith) a low)

  opens-five : MakesOne none (first 5 five_blocks) (file_at 5 five_blocks 0 ∷ others) (at 10 5 0 ∷ [])
  unfolding good_length need transport_size octets_of_bits file_from free_from of_pair incomplete held needs
  opens-five = first-opens 5 five_blocks (omega arith) (omega arith) refl (omega arith) none refl refl (omega arith)

  -- a middle packet with nothing but fill behind it, of the file of 5
  goes_on : (c n : ℕ) → c + 2 < 5 → n + 10 ≤ 256 → (w : World) → Listens w n [] (file_at 5 five_blocks c ∷ others)
      → Brings w (ten_frames n (middle 5 (c + 1) ++ fill 642) list) (n + 10) (file_at 5 five_blocks (c + 1) ∷ others) (at 11 5 0 ∷ [])
  unfolding need transport_size octets_of_bits
  goes_on c n more room =
      let ys = file_at 5 five_blocks (c + 1) ∷ others in
      long-brings 5 0 (c + 1) (omega arith) (omega arith) (omega arith) [] (omega arith) n room (fill 642)
      (fill-size 642 (omega arith) (omega arith)) (fill 642 ∷ []) (fill-cuts 642 (omega arith) (omega arith))
      (makes-then (middle-adds 5 five_blocks c (omega arith) (omega arith) (omega arith) others (omega arith))
      (makes-then (fill-makes 642 (omega arith) (omega arith) ys) (makes_none ys)))

  -- and its last two
  comes-to-end : (w : World) → Listens w 30 [] (file_at 5 five_blocks 2 ∷ others)
      → Brings w (ten_frames 30 (middle 5 3 ++ (last 5 4 ++ fill 633)) list) 40 (file_at 5 five_blocks 4 ∷ others) (at 11 5 0 ∷ at 12 5 0 ∷ [])
  unfolding need transport_size octets_of_bits rest
  comes-to-end =
      let ys = file_at 5 five_blocks 4 ∷ others in
      long-brings 5 0 3 (omega arith) (omega arith) (omega arith) [] (omega arith) 30 (omega arith) (last 5 4 ++ fill 633)
      (omega (arith, length-append (last 5 4) (fill 633), fill-size 633 (omega arith) (omega arith)))
      (last 5 4 ∷ fill 633 ∷ []) (last-cuts 633 (omega arith) (omega arith) 5 4 (omega arith) (omega arith))
      (makes-then (middle-adds 5 five_blocks 2 (omega arith) (omega arith) (omega arith) others (omega arith))
      (makes-then (last-adds 5 five_blocks 3 (omega arith) (omega arith) (omega arith) others 4 (omega arith) refl (omega arith) (omega arith))
      (makes-then (fill-makes 633 (omega arith) (omega arith) ys) (makes_none ys))))

  -- the file of 2 and its last packet, with count c
  two-packets : (c : ℕ) → c < 256 → {ys : List Slot} {es : List Event} → MakesOne (file_at 5 two_blocks 0 ∷ others) (last 5 c) ys es
      → (w : World) → Listens w 0 [] none → Brings w (ten_frames 0 (first 5 two_blocks ++ (last 5 c ++ fill 633)) list) 10 ys (at 10 5 0 ∷ es)
  unfolding good_length need transport_size octets_of_bits file_from free_from of_pair incomplete held needs
  two-packets c cs {ys} {es} does =
      long-brings 5 1 0 (omega arith) (omega arith) (omega arith) (ten two_blocks) (omega arith) 0 (omega arith) (last 5 c ++ fill 633)
      (omega (arith, length-append (last 5 c) (fill 633), fill-size 633 (omega arith) (omega arith)))
      (last 5 c ∷ fill 633 ∷ []) (last-cuts 633 (omega arith) (omega arith) 5 c (omega arith) cs)
      (makes-then (first-opens 5 two_blocks (omega arith) (omega arith) refl (omega arith) none refl refl (omega arith))
      (subst (Makes (file_at 5 two_blocks 0 ∷ others) (last 5 c ∷ fill 633 ∷ []) ys) (append-nil es)
      (makes-then does (makes-then (fill-makes 633 (omega arith) (omega arith) ys) (makes_none ys)))))

  module _ (x : Start) (p : Program x) where
    five : Brings (fresh x) (held_file list) 10 (file_at 5 five_blocks 0 ∷ others) (at 10 5 0 ∷ [])
    five = alone 5 five_blocks 0 (omega arith) (omega arith) opens-five (fresh x) (fresh-listens x p)

    completes : Brings (fresh x) (two_packets list) 10 (file_at 5 two_blocks 1 ∷ others) (at 10 5 0 ∷ at 12 5 0 ∷ [])
    unfolding need transport_size octets_of_bits rest
    completes =
        two-packets 1 (omega arith)
        (last-adds 5 two_blocks 0 (omega arith) (omega arith) (omega arith) others 1 (omega arith) refl (omega arith) (omega arith)) (fresh x)
        (fresh-listens x p)

    abandons : Brings (fresh x) (one_lost list) 10 none (at 10 5 0 ∷ at 6 5 0 ∷ [])
    unfolding need transport_size octets_of_bits
    abandons =
        two-packets 2 (omega arith)
        (last-ends 5 two_blocks 0 (omega arith) (omega arith) (omega arith) others 2 (omega arith) (λ e. omega arith)) (fresh x)
        (fresh-listens x p)

    two-opens : Brings (fresh x) (needs_two list) 20 (set (file_at 5 five_blocks 0 ∷ others) 1 (file_at 6 two_blocks 0)) (at 10 5 0 ∷ at 10 6 1 ∷ [])
    unfolding good_length need transport_size octets_of_bits file_from free_from of_pair incomplete held needs
    two-opens =
        brings-then five
        (alone 6 two_blocks 10 (omega arith) (omega arith)
        (first-opens 6 two_blocks (omega arith) (omega arith) refl (omega arith) (file_at 5 five_blocks 0 ∷ others) refl refl (omega arith)))

    three-gives-9 : Brings (fresh x) (needs_three list) 20 (file_at 5 five_blocks 0 ∷ others) (at 10 5 0 ∷ of 9 6 ∷ [])
    unfolding good_length need transport_size octets_of_bits file_from free_from of_pair incomplete held needs
    three-gives-9 =
        brings-then five
        (alone 6 three_blocks 10 (omega arith) (omega arith)
        (first-refused 6 three_blocks (omega arith) (omega arith) refl (omega arith) (file_at 5 five_blocks 0 ∷ others) refl {k = 1} refl (omega arith)))

    -- a file that needs all blocks opens where no file is held
    opens-seven : (n : ℕ) → n + 10 ≤ 256 → (w : World) → Listens w n [] none
        → Brings w (ten_frames n (first 6 seven_blocks ++ fill 642) list) (n + 10) (file_at 6 seven_blocks 0 ∷ others) (at 10 6 0 ∷ [])
    unfolding complete good_length need transport_size octets_of_bits file_from free_from of_pair incomplete held needs
    opens-seven n few =
        alone 6 seven_blocks n (omega arith) few
        (first-opens 6 seven_blocks (omega arith) (omega arith) refl (omega arith) none refl refl (omega arith))

    seven-opens : Brings (fresh x) (needs_seven list) 50 (file_at 6 seven_blocks 0 ∷ others)
        (at 10 5 0 ∷ at 11 5 0 ∷ at 11 5 0 ∷ at 11 5 0 ∷ at 12 5 0 ∷ at 10 6 0 ∷ [])
    unfolding complete good_length need transport_size octets_of_bits file_from free_from of_pair incomplete held needs
    seven-opens =
        brings-then
        (brings-then
        (brings-then
        (brings-then (brings-then five (goes_on 0 10 (omega arith) (omega arith))) (goes_on 1 20 (omega arith) (omega arith))) comes-to-end)
        (let-go-brings 40 (file_at 5 five_blocks 4) others refl))
        (opens-seven 40 (omega arith))

    seven-sooner : Brings (fresh x) (let_go_early list) 20 (file_at 6 seven_blocks 0 ∷ others) (at 10 5 0 ∷ at 10 6 0 ∷ [])
    unfolding held
    seven-sooner = brings-then (brings-then five (let-go-brings 10 (file_at 5 five_blocks 0) others refl)) (opens-seven 10 (omega arith))

    -- "F 0 0 2", "E 10 5 0", "E 12 5 0"
    as-published : Brings (fresh x) (published list) 1 (file_at 5 8 0 ∷ others) (at 10 5 0 ∷ at 12 5 0 ∷ [])
    unfolding need transport_size octets_of_bits file_from free_from of_pair incomplete held needs
    as-published = whole-brings 5 0 (omega arith) (omega arith) (whole-opens 5 (omega arith) none refl refl (omega arith)) (fresh x) (fresh-listens x p)

    -- the blocks of the abandoned file are free for the next packet of the same frame
    frees-at-once : Brings (fresh x) (freed_at_once list) 11 (file_at 6 8 0 ∷ others) (at 10 5 0 ∷ at 6 5 0 ∷ at 10 6 0 ∷ at 12 6 0 ∷ [])
    unfolding good_length need transport_size octets_of_bits file_from free_from of_pair incomplete held needs
    frees-at-once =
        let ys = file_at 6 8 0 ∷ others in
        let tail = whole_of 6 ++ fill 856 in
        brings-then
        (alone 5 seven_blocks 0 (omega arith) (omega arith)
        (first-opens 5 seven_blocks (omega arith) (omega arith) refl (omega arith) none refl refl (omega arith)) (fresh x) (fresh-listens x p))
        (one-brings 10 (omega arith) (tiny 0 5 1 ++ tail)
        (omega (arith, length-append (tiny 0 5 1) tail, length-append (whole_of 6) (fill 856), fill-size 856 (omega arith) (omega arith)))
        (tiny 0 5 1 ∷ whole_of 6 ∷ fill 856 ∷ [])
        (tiny-before 0 5 1 (inl refl) (omega arith) (omega arith) tail (whole_of 6 ∷ fill 856 ∷ []) (whole-cuts 856 (omega arith) (omega arith) 6 (omega arith)))
        (makes-then (tiny-ends 5 seven_blocks 0 (omega arith) (omega arith) (omega arith) others 1 (omega arith))
        (makes-then (whole-opens 6 (omega arith) none refl refl (omega arith))
        (makes-then (fill-makes 856 (omega arith) (omega arith) ys) (makes_none ys)))))

    -- the file of 5 leaves slot 1, and its successor takes slot 0
    takes-lower : Brings (fresh x) (lower_slot list) 12 (file_at 5 8 0 ∷ others)
        (at 10 4 0 ∷ at 12 4 0 ∷ at 10 5 1 ∷ at 6 5 1 ∷ at 10 5 0 ∷ at 12 5 0 ∷ [])
    unfolding complete good_length need transport_size octets_of_bits file_from free_from of_pair incomplete held needs
    takes-lower =
        let old = file_at 5 two_blocks 0 ∷ replicate 30 no_file in
        brings-then
        (brings-then
        (brings-then
        (whole-brings 4 0 (omega arith) (omega arith) (whole-opens 4 (omega arith) none refl refl (omega arith)) (fresh x) (fresh-listens x p))
        (alone 5 two_blocks 1 (omega arith) (omega arith)
        (first-opens 5 two_blocks (omega arith) (omega arith) refl (omega arith) (file_at 4 8 0 ∷ others) refl refl (omega arith))))
        (let-go-brings 11 (file_at 4 8 0) old refl))
        (whole-brings 5 11 (omega arith) (omega arith) (whole-over 5 (omega arith) (no_file ∷ old) 1 refl refl (omega arith)))

    -- no file of channel 2 and application 5 is there
    strays : Brings (fresh x) (two_channels list) 1 (file_on 0 5 two_blocks 0 ∷ others) (at 10 5 0 ∷ of 5 5 ∷ [])
    unfolding good_length need transport_size octets_of_bits file_from free_from of_pair incomplete held needs
    strays =
        let ys = file_on 0 5 two_blocks 0 ∷ others in
        brings-then
        (alone 5 two_blocks 0 (omega arith) (omega arith)
        (first-opens 5 two_blocks (omega arith) (omega arith) refl (omega arith) none refl refl (omega arith)) (fresh x) (fresh_on x p 0 (omega arith)))
        (λ v L.
        one-brings 0 (omega arith) (last 5 1 ++ fill 875)
        (omega (arith, length-append (last 5 1) (fill 875), fill-size 875 (omega arith) (omega arith)))
        (last 5 1 ∷ fill 875 ∷ []) (last-cuts 875 (omega arith) (omega arith) 5 1 (omega arith) (omega arith))
        (makes-then (tiny-stray 2 5 1 (inr refl) (omega arith) (omega arith) ys refl)
        (makes-then (fill-makes 875 (omega arith) (omega arith) ys) (makes_none ys)))
        v (turns-to 2 (omega arith) (omega arith) v L))

    touches_none : Brings (fresh x) (none_touched list) 1 none (of 4 5 ∷ of 13 2016 ∷ of 7 5 ∷ [])
    unfolding file_from of_pair incomplete held
    touches_none =
        one-brings 0 (omega arith) (damaged ++ (reserved ++ (tiny 1 5 0 ++ fill 856))) (omega (arith, fill-size 856 (omega arith) (omega arith)))
        (damaged ∷ reserved ∷ tiny 1 5 0 ∷ fill 856 ∷ []) odd-cuts
        (makes-then (damaged-makes none) (makes-then (reserved-makes none)
        (makes-then (ill-makes none refl) (makes-then (fill-makes 856 (omega arith) (omega arith) none) (makes_none none)))))
        (fresh x) (fresh-listens x p)

    twelve-brings : Brings (fresh x) (part_of_an_octet list) 1 (file_at 5 12 0 ∷ others) (at 10 5 0 ∷ at 12 5 0 ∷ [])
    twelve-brings =
        filled-brings 0 (omega arith) twelve_bits 864 (omega arith) refl (written.1.cuts 864 (omega arith) (omega arith)) written.1.opens
        (fresh x) (fresh-listens x p)

    -- the file of a whole packet, read out
    out : {q : List ℕ} {m L l : ℕ} → Alone q m L l → need L ≡ 1 → (n : ℕ) → 9 ≤ n → length q + n ≡ 884
        → read_out x (frame (sent 0 0 (q ++ fill n)) list ∷ []) ≡ drop 10 (flatten (data_of q ∷ []))
    out {q} {m} {L} {l} a one n some size =
        read_out_lem x m L l n q list listed (omega (arith, length-append q (fill n), fill-size n some (omega arith)))
        (a.cuts n some (omega arith)) some (omega arith) one a.head a.starts a.opens (fresh-listens x p)

    twelve-out : read_out x (part_of_an_octet list) ≡ 0xab ∷ 0xcf ∷ []
    unfolding need transport_size octets_of_bits flatten
    twelve-out = out written.1 refl 864 (omega arith) refl

    twelve-tells : told_in (run (fresh x) (part_of_an_octet list)) 0
        ≡ Ok (record { channel = channel_of 2; application = record { 0 = 5 }; counter = 258; bits = 12 })
    unfolding need transport_size octets_of_bits
    twelve-tells =
        let a = written.1 in
        facts-told x 258 12 13 864 twelve_bits list listed (omega (arith, length-append twelve_bits (fill 864), fill-size 864 (omega arith) (omega arith)))
        (a.cuts 864 (omega arith) (omega arith)) (omega arith) (omega arith) refl a.head a.starts a.opens (fresh-listens x p)

    twelve-ends : (offset : ℕ) (buffer : List ℕ) → answer (run (fresh x) (part_of_an_octet list)) (read 0 offset buffer) ≡ 0 → offset + length buffer ≤ 2
    unfolding octets_of_bits answer
    twelve-ends offset buffer done =
        let w = run (fresh x) (part_of_an_octet list) in
        let bits : (slot_at w.station 0).bits ≡ 12 = ap (λ (ys : List Slot). (get_or ys 0 no_file).bits) twelve-brings.listens.slots in
        let size : octets_of_bits (slot_at w.station 0).bits ≡ 2 = ap octets_of_bits bits in
        let (_, _, _, _, inside) = (read-zero w.station 0 w.store offset buffer).0 done in
        let n = octets_of_bits (slot_at w.station 0).bits in
        let from = leb-true offset n (and_left (leb offset n) (leb (length buffer) (n - offset)) inside) in
        let more = leb-true (length buffer) (n - offset) (and_right (leb offset n) (leb (length buffer) (n - offset)) inside) in
        omega (arith, from, more, size)

    -- a file of one octet, whose header is refused, and one that is all header
    header-short : header_read_out x (published list) ≡ refuse 20
    unfolding need transport_size octets_of_bits file_from free_from of_pair incomplete held needs flatten
    header-short =
        ap read_header
        (read_out_lem x 0 8 12 865 whole list listed
        (omega (arith, length-append whole (fill 865), fill-size 865 (omega arith) (omega arith))) (whole-cuts 865 (omega arith) (omega arith) 5 (omega arith))
        (omega arith) (omega arith) refl (whole-head 5 (omega arith)) (whole-starts 5 (omega arith)) (whole-opens 5 (omega arith) none refl refl (omega arith))
        (fresh-listens x p))
        ∙ one-octet 0

    header-good : header_read_out x (good_header list) ≡ read_header primary
    unfolding need transport_size octets_of_bits flatten
    header-good = ap read_header (out written.0 refl 850 (omega arith) refl)

    runs : Runs x list
    unfolding complete held need transport_size octets_of_bits
    runs =
        record {
          is-published = as-published.tells;
          completed = completes.tells;
          complete-then = ap (λ (ys : List Slot). complete (get_or ys 0 no_file)) completes.listens.slots;
          abandoned = abandons.tells;
          two-open = two-opens.tells;
          three-refused = three-gives-9.tells;
          seven-open = seven-opens.tells;
          seven-early = seven-sooner.tells;
          reports-whole = let-go-reports (file_at 5 two_blocks 1) completes.listens;
          reports-part = let-go-reports (file_at 5 five_blocks 0) five.listens;
          freed-at-once = frees-at-once.tells;
          lower-slot = takes-lower.tells;
          none-touched = touches_none.tells;
          twelve-bits = twelve-brings.tells;
          twelve-read = twelve-out;
          twelve-told = twelve-tells;
          twelve-end = twelve-ends;
          header_refused = header-short;
          header_read = header-good ∙ alone-read;
          two-channels = strays.tells;
        }

-- a set-up of the program: desks and store of zeros
program : (x : Start) × Program x
unfolding good_channels distinct_channels among
program =
    let desks = replicate {A = ℕ} 32792 0 in
    let store = replicate {A = ℕ} 57330 0 in
    let long : length store ≡ 57330 = length-replicate {A = ℕ} 57330 0 in
    let good : (set_up 1 (0 ∷ 1 ∷ 2 ∷ 3 ∷ []) desks store).answer ≡ 0 =
    (set_up-zero 1 (0 ∷ 1 ∷ 2 ∷ 3 ∷ []) desks store).1 (
      refl,
      eq-eqb (length desks) 32792 (length-replicate {A = ℕ} 32792 0),
      and_both (and_both (eq-eqb (length store % 8190) 0 (omega arith)) (le-leb 1 (length store / 8190) (omega arith)))
          (le-leb (length store / 8190) 4096 (omega arith)),
    ) in (
      record { spacecraft = 1; channels = 0 ∷ 1 ∷ 2 ∷ 3 ∷ []; desks = desks; store = store; good = good },
      record { spacecraft = refl; channels = refl; store = long },
    )

-- a frame is sent as octets, if its header and zone are octets
sent-octets : (c n p : ℕ) (zone : List ℕ) → Octets (plain c n p zone) → Octets (sent_on c n p zone)
sent-octets c n p zone h zero = omega arith
sent-octets c n p zone h (suc zero) = omega arith
sent-octets c n p zone h (suc (suc zero)) = omega arith
sent-octets c n p zone h (suc (suc (suc zero))) = omega arith
sent-octets c n p zone h (suc (suc (suc (suc i)))) = octets-mixed (plain c n p zone) h i

octets-each : (xs : List ℕ) → each (λ (x : ℕ). ltb x 256) xs ≡ true → Octets xs
unfolding each
octets-each [] e i = omega arith
octets-each (x ∷ xs) e zero = ltb-true x 256 (and_left (ltb x 256) (each (λ (y : ℕ). ltb y 256) xs) e)
octets-each (x ∷ xs) e (suc i) = octets-each xs (and_right (ltb x 256) (each (λ (y : ℕ). ltb y 256) xs) e) i

-- the whole packet of the published frame
moment : (m : Moment) × Octets m.sent × (t : Transport) × Starts m.p t
unfolding run each
moment =
    let (x, q) = program in
    let list = replicate {A = ℕ} 900 0 in
    let listed : 900 ≤ length list = omega (arith, length-replicate {A = ℕ} 900 0) in
    let zone = whole ++ fill 865 in (
      record {
        start = x;
        calls = [];
        sent = sent 0 0 zone;
        list = list;
        before = [];
        channel = channel_of 2;
        p = whole;
        later = packet (channel_of 2) (fill 865) ∷ left 2 (desk_after (accepts 0 0) 0) ∷ [];
        brought =
            brings-packets (fresh-listens x q) (omega arith) 0 (inl (omega arith)) zone list
            (omega (arith, length-append whole (fill 865), fill-size 865 (omega arith) (omega arith))) listed
            zone (reading-first zone) (whole ∷ fill 865 ∷ []) [] (whole-cuts 865 (omega arith) (omega arith) 5 (omega arith));
      },
      sent-octets 2 0 0 zone (octets-each (plain 2 0 0 zone) refl),
      bits 8,
      whole-starts 5 (omega arith),
    )

pub guards : Guards
guards = record { set-up = program; moment = moment; runs = λ x p list listed. runs list listed x p; losses = loss-runs }
