-- The ledger's pages: the blocks of a held file begin with the data of its accepted packets, in order, and a complete file is those data
-- joined, less the ten transport octets. Assumes nothing.
use Rattle.std.specs.Prelude.{if◌then◌else◌}
use mathlib.Core.Path.{◌≡◌, refl, sym, ap, subst, ◌∙◌}
use mathlib.Core.Bool.{true, true≢false}
use mathlib.Core.Logic.{⊎_elim}
use mathlib.Core.List.{List, [], ◌∷◌, ◌++◌, flatten}
use Prim.Native.Nat.{ℕ, ◌+◌, ◌-◌, ◌*◌, ◌/◌, ◌%◌, ◌≤◌, ◌<◌}
use native.Mathlib.Decide.{dec_lt}
use native.Mathlib.Omega.{arith}
use borrow.Author.Tests.{eq-eqb, ne_eqb, le-leb}
use lib.Dec.{eqb}
use lib.ListN.{length, take, drop, get_or, length-append, length-drop, get_or-append}
use lib.Seq.{take-append_seam, get_or-append_seam, get_or-drop}
use Rattle.octets.specs.Number.{part}
use Rattle.octets.proofs.Lists.{if-true, if-false, drop-take}
use Rattle.packet.specs.Header.{packet_of}
use Rattle.transport.specs.declared.Transport.{Transport}
use Rattle.transport.specs.Length.{transport_of, octets_of_bits, transport_size, need, rest}
use Rattle.transport.proofs.Length.{size-sum, need-one, need-covers, rest_sum}
use Rattle.state.specs.declared.Slot.{Slot}
use Rattle.state.specs.declared.Station.{Station}
use Rattle.state.specs.Slots.{slot_at, held, complete, need_of}
use Rattle.state.specs.Blocks.{blocks_of}
use Rattle.octets.proofs.Tests.{and_both}
use Rattle.state.proofs.Exactly.{held-accepted}
use Rattle.room.specs.File.{block_octets, joined, file_octets}
use Rattle.judge.specs.Judge.{data_of, first_slot, next_slot}
use Rattle.judge.proofs.Parts.{begun-right, goes-following}
use Rattle.judge.proofs.Keeps.{file-going}
use Rattle.judge.proofs.Steps.{Untouched, Wrote}
use Rattle.station.specs.Files.{ReadOutcome}
use Rattle.station.proofs.Calls.{read-outcome, read-zero}
use Rattle.history.specs.Run.{World, Call, answer, after, run, Start, fresh, SoundWorld}
use Rattle.history.specs.Run.Call.{read}
use Rattle.history.specs.Things.{Thing, did, did_all, things}
use Rattle.history.specs.Ledger.{Page, Ledger, noted_by, noted_all, ledger_after, ledger_run, no_pages}
use Rattle.history.specs.Calls.{result_of}
use Rattle.history.specs.Files.{entry_size, PageRight, carried, FileRight, BlocksHold, FilesCarried}
use Rattle.history.proofs.Sound.{after-sound, fresh-sound, run_sound, world-sound, world_store}
use Rattle.history.proofs.Moments.{Settled, settled, AllRightly, did-settled, call-leaves, call-rightly}
use Rattle.history.proofs.Follows.{complete-held, fresh-held}
use Rattle.history.proofs.Joined.{Full, joined_length, joined_at, joined-blocks}
use Rattle.history.proofs.Turns.{none-held, Turn, turn}
use Rattle.history.proofs.Turns.Turn.{stays, goes, leaves, opens}

-- octets that change in no block of the page
page-untouched : {x : Slot} {bs store now : List ℕ} {q : Page} → x.accepted ≤ length bs → Untouched bs store now → PageRight x bs store q → PageRight x bs now q
page-untouched {q = q} few u r =
    record {
      count = r.count;
      sizes = r.sizes;
      header = r.header;
      blocks = λ i l. ap (take (length (get_or q i []))) (u i (omega arith)) ∙ r.blocks i l;
    }

-- a first packet
module _ (x : Slot) (bs store now d : List ℕ) where
  page-first : x.accepted ≡ 1 → length d ≡ entry_size x 0 → 10 ≤ length d → (transport_of d).bits ≡ x.bits → Wrote bs 0 d store now
      → PageRight x bs now (d ∷ [])
  page-first one size ten bits w =
      record {
        count = sym one;
        sizes =
            λ i l.
            let z : 0 ≡ i = omega arith in
            subst (λ (n : ℕ). length (get_or (d ∷ []) n []) ≡ entry_size x n) z size;
        header = (ten, bits);
        blocks =
            λ i l.
            let z : 0 ≡ i = omega arith in
            subst (λ (n : ℕ). take (length (get_or (d ∷ []) n [])) (block_octets now (get_or bs n 0)) ≡ get_or (d ∷ []) n []) z
            (ap (take (length d)) w.here ∙ take-append_seam d _);
      }

-- a packet more
module _ (x y : Slot) (bs store now d : List ℕ) (q : Page) (r : PageRight x bs store q) where
  earlier : (i : ℕ) → i < x.accepted → get_or (q ++ (d ∷ [])) i [] ≡ get_or q i []
  earlier i l = get_or-append q (d ∷ []) [] i (omega (arith, r.count))

  latest : (i : ℕ) → i ≡ x.accepted → get_or (q ++ (d ∷ [])) i [] ≡ d
  latest i e = ap (λ (n : ℕ). get_or (q ++ (d ∷ [])) n []) (e ∙ sym r.count) ∙ get_or-append_seam q d [] []

  page-next : 1 ≤ x.accepted → x.accepted ≤ length bs → y.accepted ≡ x.accepted + 1 → y.bits ≡ x.bits → length d ≡ entry_size y x.accepted
      → Wrote bs x.accepted d store now → PageRight y bs now (q ++ (d ∷ []))
  page-next one few more bits size w =
      record {
        count = length-append q (d ∷ []) ∙ omega (arith, r.count);
        sizes =
            λ i l.
            elim (dec_lt i x.accepted) [
              | yes m ↦
                  ap length (earlier i m) ∙ r.sizes i m ∙ ap (λ (L : ℕ). if eqb (i + 1) (need L) then rest L else 8190) (sym bits)
              | no m ↦
                  let e : i ≡ x.accepted = omega arith in
                  ap length (latest i e) ∙ size ∙ ap (entry_size y) (sym e)
            ];
        header = rw (earlier 0 (omega arith)) (r.header.0, r.header.1 ∙ sym bits);
        blocks =
            λ i l.
            elim (dec_lt i x.accepted) [
              | yes m ↦
                  rw (earlier i m) (ap (take (length (get_or q i []))) (w.others i (omega arith) (λ e. omega arith)) ∙ r.blocks i m)
              | no m ↦
                  let e : i ≡ x.accepted = omega arith in
                  rw (latest i e, e) (ap (take (length d)) w.here ∙ take-append_seam d _)
            ];
      }

-- one thing
module _ {s : Station} {store : List ℕ} (h : Settled s store) (k : ℕ) (low : k < 32) (t : Thing) (q : Page)
    (r : held (slot_at s k) ≡ true → PageRight (slot_at s k) (blocks_of s k) store q) where
  page-turn : Turn s store t k (did s store t) → held (slot_at (did s store t).station k) ≡ true
      → PageRight (slot_at (did s store t).station k) (blocks_of (did s store t).station k) (did s store t).store (noted_by k t (did s store t).events q)
  page-turn (stays u f n) e =
      let here : held (slot_at s k) ≡ true = ap held (sym u.slot) ∙ e in
      let file = h.sound.files k low here in
      rw (u.slot, u.blocks, n q) (page-untouched (omega (arith, file.accepted, file.places)) u.octets (r here))
  page-turn (goes {c} {p} a g f n) e =
      let going = file-going h.sized h.sound c (packet_of p).application g.file in
      let x = slot_at s k in
      let next = goes-following x (packet_of p) (data_of p) g.later g.goes in
      rw (g.slot, g.blocks, n q)
      (page-next x (next_slot x (packet_of p)) (blocks_of s k) store (did s store t).store (data_of p) q (r going.held)
      (held-accepted x going.held) (omega (arith, going.less, going.places)) refl refl
      (⊎_elim (λ (i, size, more). size ∙ sym (if-false (rest x.bits) 8190 (ne_eqb (x.accepted + 1) (need_of x) more)))
      (λ (i, last, size). size ∙ sym (if-true (rest x.bits) 8190 (eq-eqb (x.accepted + 1) (need_of x) last))) next.shape)
      g.octets)
  page-turn (leaves f n why) e = absurd (true≢false (sym e ∙ ap held n ∙ none-held))
  page-turn (opens {c} {p} a u st why o m n) e =
      let right = begun-right (packet_of p).flags (data_of p) o.right in
      let L = o.file.bits in
      let x = first_slot c (packet_of p) o.file in
      rw (o.slot, n q)
      (page-first x (blocks_of (did s store t).station k) store (did s store t).store (data_of p) refl
      (⊎_elim (λ (i, size, two). size ∙ sym (if-false (rest L) 8190 (ne_eqb (0 + 1) (need L) (λ z. omega arith))))
      (λ (i, size, one). size ∙ omega (arith, rest_sum L) ∙ sym (if-true (rest L) 8190 (eq-eqb (0 + 1) (need L) (sym one)))) right.shape)
      right.long (ap (λ (z : Transport). z.bits) (sym right.is))
      o.octets)

-- and things one after the other
pub pages-all : {s : Station} {store : List ℕ} (ts : List Thing) → Settled s store → AllRightly s store ts → (l : Ledger) (k : ℕ) → k < 32
    → (held (slot_at s k) ≡ true → PageRight (slot_at s k) (blocks_of s k) store (l k))
    → held (slot_at (did_all s store ts).station k) ≡ true
    → PageRight (slot_at (did_all s store ts).station k) (blocks_of (did_all s store ts).station k) (did_all s store ts).store (noted_all s store ts l k)
unfolding did_all noted_all
pages-all [] h r l k low p e = p e
pages-all {s} {store} (t ∷ ts) h r l k low p e =
    pages-all {s = (did s store t).station} {store = (did s store t).store} ts (did-settled t h r.0) r.1 (λ i. noted_by i t (did s store t).events (l i)) k low
    (page-turn h k low t (l k) p (turn h k low t)) e

-- of a world and its ledger
abbrev Pages : World → Ledger → Type 0
Pages w l =
    (k : ℕ) → k < 32 → held (slot_at w.station k) ≡ true → PageRight (slot_at w.station k) (blocks_of w.station k) w.store (l k)

call-pages : {w : World} → SoundWorld w → (c : Call) (l : Ledger) → Pages w l → Pages (after w c) (ledger_after w c l)
call-pages {w} h c l p k low e =
    let v = call-leaves w c in
    rw (v.station, v.store) at (pages-all (things w c) (settled h) (call-rightly h c) l k low (p k low) (rw v.station e))

run-pages : {w : World} → SoundWorld w → (cs : List Call) (l : Ledger) → Pages w l → Pages (run w cs) (ledger_run w cs l)
unfolding run ledger_run
run-pages h [] l p = p
run-pages {w} h (c ∷ cs) l p = run-pages {w = after w c} (after-sound h c) cs (ledger_after w c l) (call-pages h c l p)

-- a complete file
module _ (x : Slot) (bs store : List ℕ) (q : Page) (r : PageRight x bs store q) (all : x.accepted ≡ need_of x) where
  full : Full q
  full i l =
      r.sizes i (omega (arith, r.count)) ∙ if-false (rest x.bits) 8190 (ne_eqb (i + 1) (need_of x) (λ e. omega (arith, r.count)))

  page-length : length (flatten q) ≡ transport_size x.bits
  page-length =
      let some : 1 ≤ length q = omega (arith, r.count, need-one x.bits) in
      let last : length (get_or q (length q - 1) []) ≡ rest x.bits =
      r.sizes (length q - 1) (omega (arith, r.count))
      ∙ if-true (rest x.bits) 8190 (eq-eqb (length q - 1 + 1) (need_of x) (omega (arith, r.count))) in
      omega (arith, joined_length q full some, rest_sum x.bits, r.count)

  page-octets : length bs ≡ need_of x → take (octets_of_bits x.bits) (drop 10 (joined store bs)) ≡ carried q
  page-octets places =
      let m = octets_of_bits x.bits in
      sym (drop-take 10 m (joined store bs))
      ∙ ap (drop 10)
      (ap (λ (n : ℕ). take n (joined store bs)) (sym (page-length ∙ size-sum x.bits))
      ∙ joined-blocks store q bs (omega (arith, r.count)) full (λ i l. r.blocks i (omega (arith, r.count))))

  page-size : length (carried q) ≡ octets_of_bits x.bits
  page-size = length-drop 10 (flatten q) ∙ omega (arith, page-length, size-sum x.bits)

  page-octet : (n : ℕ) → n < octets_of_bits x.bits → get_or (carried q) n 0 ≡ get_or (get_or q ((10 + n) / 8190) []) ((10 + n) % 8190) 0
  page-octet n l =
      let m = (10 + n) / 8190 in
      let k = (10 + n) % 8190 in
      let cut : 10 + n ≡ 8190 * m + k = omega arith in
      get_or-drop 10 (flatten q) n 0 ∙ ap (λ (i : ℕ). get_or (flatten q) i 0) cut
      ∙ joined_at q full m k
      (omega (arith, r.count, need-covers x.bits, size-sum x.bits))
      (omega arith)

module _ {w : World} (h : SoundWorld w) (k : ℕ) (low : k < 32) (done : complete (slot_at w.station k) ≡ true) (q : Page)
    (r : PageRight (slot_at w.station k) (blocks_of w.station k) w.store q) where
  file-octets : file_octets w.station w.store k ≡ carried q
  unfolding file_octets
  file-octets =
      let x = slot_at w.station k in
      let (here, all) = complete-held x done in
      page-octets x (blocks_of w.station k) w.store q r all (h.sound.files k low here).places

  reads : (offset : ℕ) (buffer : List ℕ) → offset + length buffer ≤ octets_of_bits (slot_at w.station k).bits
      → (answer w (read k offset buffer) ≡ 0) × (result_of w (read k offset buffer) ≡ part offset (length buffer) (carried q))
  unfolding answer result_of
  reads offset buffer l =
      let s = w.station in
      let n = octets_of_bits (slot_at s k).bits in
      let inside = and_both (le-leb offset n (omega arith)) (le-leb (length buffer) (n - offset) (omega arith)) in
      let zero = (read-zero s k w.store offset buffer).1 (world_store h, world-sound h, low, done, inside) in (
        zero,
        ap (λ (o : ReadOutcome). o.buffer) ((read-outcome s k w.store offset buffer).done zero)
            ∙ ap (part offset (length buffer)) file-octets,
      )

  file-right : FileRight w k q
  file-right =
      let x = slot_at w.station k in
      let (here, all) = complete-held x done in
      let bs = blocks_of w.station k in
      record {
        octets = file-octets;
        size = page-size x bs w.store q r all;
        read-part = reads;
        octet = λ n l. ap (λ (xs : List ℕ). get_or xs n 0) file-octets ∙ page-octet x bs w.store q r all n l;
      }

-- "its first blocks hold the data of its accepted packets in order"
pub blocks-hold : (x : Start) (cs : List Call) → BlocksHold x cs
blocks-hold x cs = run-pages (fresh-sound x) cs no_pages (λ k low e. absurd (true≢false (sym e ∙ fresh-held x k)))

-- "Its octets are those its packets carried"
pub files-carried : (x : Start) (cs : List Call) → FilesCarried x cs
files-carried x cs k low done =
    file-right (run_sound (fresh-sound x) cs) k low done (ledger_run (fresh x) cs no_pages k)
    (blocks-hold x cs k low (complete-held (slot_at (run (fresh x) cs).station k) done).0)
