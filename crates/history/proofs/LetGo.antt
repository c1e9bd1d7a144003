-- The calls on files, in a run: what letting a file go leaves and what it reports, and which reads are refused. Assumes nothing.
use mathlib.Core.Path.{◌≡◌, refl, sym, ap, ◌∙◌}
use mathlib.Core.Bool.{Bool, true, false, ◌&&◌, true≢false}
use mathlib.Core.Logic.{◌↔◌, ⊎_elim}
use mathlib.Core.List.{List}
use Prim.Native.Nat.{ℕ, ◌+◌, ◌-◌, ◌<◌}
use native.Mathlib.Decide.{ℕ_discrete}
use native.Mathlib.Omega.{arith}
use borrow.Author.Tests.{ltb-true, lt-ltb, lt-leb, leb-true}
use lib.Dec.{ltb, leb}
use lib.ListN.{length}
use Rattle.octets.proofs.Tests.{and_left, and_right, and_both}
use Rattle.transport.specs.Length.{octets_of_bits}
use Rattle.state.specs.declared.Slot.{Slot}
use Rattle.state.specs.declared.Station.{Station}
use Rattle.state.specs.Slots.{slot_at, held, complete, head_of}
use Rattle.state.specs.Blocks.{Stands}
use Rattle.state.proofs.Places.{stands-low, stands-once}
use Rattle.room.specs.Move.{let_go}
use Rattle.room.proofs.Keeps.{refiled-slot, refiled-slots, refiled-sized, let_go-refiles, let_go-blocks, let_go-sound}
use Rattle.station.specs.declared.LetGo.{LetGo}
use Rattle.station.specs.Files.{ReadOutcome, is_held, within, file_let_go}
use Rattle.station.proofs.Asking.{complete-held}
use Rattle.station.proofs.Calls.{let_go-is, let_go-outcome, let_go-zero, read_is}
use Rattle.history.specs.Run.{World, Call, answer, after, Start, SoundWorld}
use Rattle.history.specs.Run.Call.{let-go}
use Rattle.history.specs.Calls.{reported}
use Rattle.history.specs.Files.{ReportsExactly, ReadRefused, ReadsRefused}
use Rattle.history.specs.Store.{Free, BelongsToOne}
use Rattle.history.specs.Freed.{Gone, LettingGo, LetsGo}
use Rattle.history.specs.Demands.{EveryRun}
use Rattle.history.proofs.Sound.{world-sound, world_store, run_sound, fresh-sound}
use Rattle.history.proofs.Blocks.{station-blocks}
use Rattle.history.proofs.Order.{complete-exactly}

none-complete : (x : Slot) → held x ≡ false → complete x ≡ false
unfolding complete
none-complete x e = rw e

-- what is not a held slot
pub not-held : (s : Station) (k : ℕ) → ((k < 32) × (held (slot_at s k) ≡ true) → ⊥) → is_held s k ≡ false
not-held s k none = go (is_held s k) refl
  where
    go : (b : Bool) → is_held s k ≡ b → b ≡ false
    go false e = refl
    go true e = absurd (none (ltb-true k 32 (and_left (ltb k 32) (held (slot_at s k)) e), and_right (ltb k 32) (held (slot_at s k)) e))

module _ {w : World} (h : SoundWorld w) (k : ℕ) where
  -- each block that the file had is free: no other slot has it, and this one has none
  freed-block : k < 32 → (b i : ℕ) → Stands w.station b k i → Free (let_go w.station k) b
  unfolding let_go
  freed-block low b i a =
      let s = w.station in
      let r = let_go-refiles s k in
      ⊎_elim (λ f. f)
      (λ (o : BelongsToOne (let_go s k) b).
      absurd
      (elim (ℕ_discrete o.slot k) [
        | yes e ↦ omega (arith, ap length (let_go-blocks s k), rw e at o.stands.low)
        | no n ↦
            let others = r.others o.slot n in
            n (sym (stands-once a (record { low = rw others at o.stands.low; here = rw others at o.stands.here })).0)
      ]))
      ((station-blocks (refiled-sized r h.sized) (let_go-sound h.sized h.sound low)).each b (stands-low a))

  gone-by : k < 32 → Gone w (record { station = let_go w.station k; desks = w.desks; store = w.store }) k
  gone-by low =
      let s = w.station in
      let r = let_go-refiles s k in
      record {
        slot = refiled-slot r h.sized low;
        none = let_go-blocks s k;
        blocks = freed-block low;
        store = refl;
        desks = refl;
        head = ap (λ (t : Station). head_of t) r.frame;
        others = λ j n. (refiled-slots r j n, r.others j n);
      }

  any_held : (answer w (let-go k) ≡ 0) ↔ ((k < 32) × (held (slot_at w.station k) ≡ true))
  unfolding answer
  any_held =
      let z = let_go-zero w.station k in
      (λ e. let (sound, low, here) = z.0 e in (low, here), λ (low, here). z.1 (world-sound h, low, here))

  letting-go : LettingGo w k
  unfolding answer after
  letting-go =
      let s = w.station in
      record {
        any = any_held;
        gone = λ e. rw ((let_go-outcome s k).done e) (gone-by (any_held.0 e).0);
        by-11 = λ n. ap (λ (r : LetGo). r.answer) (let_go-is s k) ∙ rw (world-sound h, not-held s k (λ there. n (any_held.1 there))) refl;
      }

  -- "reports whether it was complete"; of a slot that is not held nothing is complete
  pub reports : k < 32 → reported w (let-go k) ≡ complete (slot_at w.station k)
  unfolding reported answer
  reports low = by (held (slot_at s k)) refl
    where
      s : Station
      s = w.station

      by : (b : Bool) → held (slot_at s k) ≡ b → (file_let_go s k).complete ≡ complete (slot_at s k)
      by true e = ap (λ (r : LetGo). r.complete) ((let_go-outcome s k).done (any_held.1 (low, e)))
      by false e =
          ap (λ (r : LetGo). r.complete) ((let_go-outcome s k).refused (λ z. true≢false (sym (any_held.0 z).1 ∙ e))).0 ∙ sym (none-complete (slot_at s k) e)

-- "one operation that frees any held file"
pub lets_go : EveryRun LetsGo
lets_go x cs k = letting-go (run_sound (fresh-sound x) cs) k

pub reports-exactly : (x : Start) (cs : List Call) → ReportsExactly x cs
reports-exactly x cs k low =
    let e = reports (run_sound (fresh-sound x) cs) k low in
    rw e (complete-exactly x cs k low)

-- what passes the end of a file
outside : (size offset n : ℕ) → size < offset + n → within size offset n ≡ false
outside size offset n l = go (leb offset size) refl
  where
    go : (b : Bool) → leb offset size ≡ b → (b && leb n (size - offset)) ≡ false
    go false e = refl
    go true e = lt-leb n (size - offset) (omega (arith, leb-true offset size e))

module _ {w : World} (h : SoundWorld w) (k offset : ℕ) (buffer : List ℕ) where
  read-refused : ReadRefused w k offset buffer
  unfolding answer
  read-refused =
      let s = w.station in
      let is = ap (λ (o : ReadOutcome). o.answer) (read_is s k w.store offset buffer) in
      let there : k < 32 → held (slot_at s k) ≡ true → is_held s k ≡ true = λ low e. and_both (lt-ltb k 32 low) e in
      record {
        by-11 = λ n. is ∙ rw (world_store h, world-sound h, not-held s k n);
        by-12 = λ low e part. is ∙ rw (world_store h, world-sound h, there low e, part);
        by-14 =
            λ low whole past.
            is ∙ rw (world_store h, world-sound h, there low (complete-held (slot_at s k) whole), whole, outside (octets_of_bits (slot_at s k).bits) offset (length buffer) past);
      }

-- "12 stays for reads, 11 stays"
pub reads-refused : EveryRun ReadsRefused
reads-refused x cs = read-refused (run_sound (fresh-sound x) cs)
