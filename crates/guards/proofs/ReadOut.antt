-- A file that came in one whole packet, read out: what a read gives is what the packet carried, and what is told of it what it says. Assumes
-- nothing.
use Rattle.std.specs.Prelude.{Ok}
use mathlib.Core.Path.{◌≡◌, refl, sym, ap, ap₂, ◌∙◌}
use mathlib.Core.Bool.{true, false, and-false}
use mathlib.Core.Logic.{inl}
use mathlib.Core.List.{List, [], ◌∷◌, ◌++◌, map, flatten, append-nil}
use mathlib.Core.List.Memᴰ
use Prim.Native.Nat.{ℕ, ◌≤◌}
use native.Mathlib.Omega.{arith}
use lib.ListN.{length, drop, get_or, replicate}
use Rattle.frame.specs.declared.Channel.{Channel}
use Rattle.packet.specs.declared.Packet.{Packet}
use Rattle.packet.specs.Header.{packet_of}
use Rattle.transport.specs.declared.Transport.{Transport}
use Rattle.transport.specs.Length.{transport_of, need}
use Rattle.state.specs.declared.Slot.{Slot}
use Rattle.state.specs.Slots.{no_file, slot_at, held, complete, incomplete}
use Rattle.events.specs.Event.{at}
use Rattle.judge.specs.Judge.{data_of, first_slot}
use Rattle.judge.specs.Packets.{Starts}
use Rattle.judge.proofs.Parts.{begun-right}
use Rattle.zone.specs.Zone.{split}
use Rattle.zone.specs.Walk.{desk_after}
use Rattle.zone.proofs.Readings.{reading-first}
use Rattle.station.specs.SetUp.{channel_of}
use Rattle.history.specs.Run.{Call, run, Start, fresh}
use Rattle.history.specs.Run.Call.{frame}
use Rattle.history.specs.Things.{Thing, did_all, things, all_things}
use Rattle.history.specs.Things.Thing.{packet, left}
use Rattle.history.specs.Follow.{concerns, ends, adds, fate, follow, added}
use Rattle.history.specs.Follow.Fate.{Still}
use Rattle.history.specs.Calls.{result_of, told_in}
use Rattle.history.specs.Files.{CameInRun, packets_of, carried}
use Rattle.history.specs.Headers.{whole_read}
use Rattle.history.proofs.Follows.{follow-on}
use Rattle.history.proofs.Order.{added-on}
use Rattle.history.proofs.Carried.{pages-came}
use Rattle.history.proofs.Facts.{facts-came}
use Rattle.history.proofs.Headers.{headers-read}
use Rattle.guards.specs.Sent.{sent, fill}
use Rattle.guards.proofs.Sending.{accepts, cut, Listens, makes_none, step, brings-packets}
use Rattle.guards.proofs.Making.{MakesOne, makes-then}
use Rattle.guards.proofs.Packets.{head_of, file_at, numbered, fill-makes}

-- no packet adds to a complete file or ends it
module _ (x : Slot) (e : incomplete x ≡ false) (c : Channel) (p : List ℕ) where
  never-adds : adds x c p ≡ false
  unfolding adds concerns
  never-adds = rw e

  stays : (k : ℕ) → fate k x (packet c p) ≡ Still x
  unfolding fate ends adds concerns
  stays k = rw e

-- a whole packet p of application 5 with counter m and L bits, and fill behind it, in the first frame of a run
module _ (x : Start) (m L l n : ℕ) (p list : List ℕ) (listed : 900 ≤ length list) (size : length (p ++ fill n) ≡ 884)
    (cuts : split (p ++ fill n) ≡ cut (p ∷ fill n ∷ []) []) (some : 9 ≤ n) (most : n ≤ 884) (one : need L ≡ 1)
    (head : head_of 5 3 0 l ≡ packet_of p) (starts : Starts p (numbered m L))
    (opens : MakesOne (replicate 32 no_file) p (file_at 5 L 0 ∷ replicate 31 no_file) (at 10 5 0 ∷ at 12 5 0 ∷ []))
    (L₀ : Listens (fresh x) 0 [] (replicate 32 no_file)) where
  calls : List Call
  calls = frame (sent 0 0 (p ++ fill n)) list ∷ []

  later : List Thing
  later = packet (channel_of 2) (fill n) ∷ left 2 (desk_after (accepts 0 0) 0) ∷ []

  going : incomplete (file_at 5 L 0) ≡ false
  unfolding incomplete
  going = rw one (and-false (held (file_at 5 L 0)))

  file-is : first_slot (channel_of 2) (packet_of p) (numbered m L) ≡ file_at 5 L 0
  file-is = ap (λ (h : Packet). first_slot (channel_of 2) h (numbered m L)) (sym head)

  follows : follow 0 (file_at 5 L 0) later ≡ Still (file_at 5 L 0)
  unfolding later follow fate
  follows =
      follow-on 0 (file_at 5 L 0) (packet (channel_of 2) (fill n)) (left 2 (desk_after (accepts 0 0) 0) ∷ [])
      (stays (file_at 5 L 0) going (channel_of 2) (fill n) 0)

  came : CameInRun x calls 0 (file_at 5 L 0)
  unfolding calls later all_things did_all
  came =
      let zone = p ++ fill n in
      let w = fresh x in
      let app : (packet_of p).application.0 ≡ 5 = ap (λ (h : Packet). h.application.0) (sym head) in
      record {
        before = [];
        channel = channel_of 2;
        first = p;
        later = later;
        file = numbered m L;
        split =
            append-nil (things w (frame (sent 0 0 zone) list))
            ∙ brings-packets L₀ (omega arith) 0 (inl (omega arith)) zone list size listed zone (reading-first zone) (p ∷ fill n ∷ []) [] cuts;
        starts = starts;
        opened = rw (app, (opens.from w.station w.store L₀.slots L₀.blocks).1) (Memᴰ.head refl);
        followed = ap (λ (y : Slot). follow 0 y later) file-is ∙ follows;
      }

  only : added 0 (file_at 5 L 0) later ≡ []
  unfolding later added fate
  only =
      added-on 0 (file_at 5 L 0) (packet (channel_of 2) (fill n)) (left 2 (desk_after (accepts 0 0) 0) ∷ [])
      (stays (file_at 5 L 0) going (channel_of 2) (fill n) 0)
      ∙ rw (never-adds (file_at 5 L 0) going (channel_of 2) (fill n))

  page : map data_of (packets_of came) ≡ data_of p ∷ []
  unfolding came
  page = ap (λ (y : Slot). data_of p ∷ map data_of (added 0 y later)) file-is ∙ ap (λ (qs : List (List ℕ)). data_of p ∷ map data_of qs) only

  done : complete (slot_at (run (fresh x) calls).station 0) ≡ true
  unfolding calls run complete held
  done =
      let zone = p ++ fill n in
      let ys = file_at 5 L 0 ∷ replicate 31 no_file in
      let (v, t) = step L₀ (omega arith) 0 (inl (omega arith)) zone list size listed zone (reading-first zone) (p ∷ fill n ∷ []) [] cuts 1 refl
      (makes-then opens (makes-then (fill-makes n some most ys) (makes_none ys))) in
      ap (λ (zs : List Slot). complete (get_or zs 0 no_file)) v.slots ∙ rw one

  pub read_out_lem : result_of (run (fresh x) (frame (sent 0 0 (p ++ fill n)) list ∷ []))
      (whole_read (run (fresh x) (frame (sent 0 0 (p ++ fill n)) list ∷ [])) 0) ≡ drop 10 (flatten (data_of p ∷ []))
  unfolding calls
  read_out_lem =
      (headers-read x calls 0 (omega arith) done).octets
      ∙ ap carried (pages-came x calls 0 (omega arith) (file_at 5 L 0) came ∙ page)

  pub facts-told : told_in (run (fresh x) (frame (sent 0 0 (p ++ fill n)) list ∷ [])) 0
      ≡ Ok (record { channel = channel_of 2; application = record { 0 = 5 }; counter = m; bits = L })
  unfolding calls came complete held
  facts-told =
      let is : numbered m L ≡ transport_of (data_of p) = (begun-right (packet_of p).flags (data_of p) starts.right).is in
      facts-came x calls 0 (omega arith) (file_at 5 L 0) came (rw one)
      ∙ ap₂ (λ (h : Packet) (t : Transport). Ok (record { channel = channel_of 2; application = h.application; counter = t.counter; bits = t.bits }))
      (sym head) (sym is)
