-- What a packet makes of the files of a station with seven blocks, from the files alone. Assumes nothing.
use Rattle.std.specs.Prelude.{Some, None}
use mathlib.Core.Path.{◌≡◌, refl, ap, ◌∙◌}
use mathlib.Core.Bool.{true, false}
use mathlib.Core.List.{List, [], ◌∷◌, ◌++◌}
use Prim.Native.Nat.{ℕ, ◌-◌, ◌≤◌, ◌<◌}
use lib.ListN.{get_or, set}
use Rattle.packet.specs.declared.Packet.{Packet}
use Rattle.packet.specs.Header.{packet_of}
use Rattle.transport.specs.declared.Transport.{Transport}
use Rattle.transport.specs.Length.{need}
use Rattle.transport.specs.Shape.{begun_of}
use Rattle.state.specs.declared.Slot.{Slot}
use Rattle.state.specs.declared.Station.{Station}
use Rattle.state.specs.Slots.{no_file, slot_at}
use Rattle.state.specs.Blocks.{needs, room}
use Rattle.room.specs.Find.{free_from, free_slot, file_from, file_of}
use Rattle.room.specs.Move.{opened, let_go}
use Rattle.events.specs.Event.{Event, of, at}
use Rattle.judge.specs.Judge.{data_of, first_slot, next_slot, goes_on, judged, next_kind, is_intact}
use Rattle.judge.specs.Packets.{Undamaged, Starting}
use Rattle.judge.proofs.Parts.{open_events, judged-fill, judged-other, judged-damaged, judged-starts, judged-later, starts_none, starts-old, begins-wrong, begins-opens, begins-no-room, opens_as, continues-none, continues-as, continues-ends}
use Rattle.judge.proofs.Keeps.{judged-stays}
use Rattle.zone.proofs.Walks.{all_first}
use Rattle.station.specs.SetUp.{channel_of}
use Rattle.guards.proofs.Sending.{MakesOn}

-- the same of one packet
pub record MakesOneOn (c : ℕ) (xs : List Slot) (p : List ℕ) (ys : List Slot) (es : List Event) : Type 0 where
  pub from :
      (s : Station) (store : List ℕ) → s.slots ≡ xs → s.blocks ≡ 7
      → ((judged (channel_of c) s store p).station.slots ≡ ys) × ((judged (channel_of c) s store p).events ≡ es)

abbrev pub MakesOne : List Slot → List ℕ → List Slot → List Event → Type 0
MakesOne xs p ys es = MakesOneOn 2 xs p ys es

pub makes-then : {c : ℕ} {xs ys zs : List Slot} {p : List ℕ} {ps : List (List ℕ)} {es fs : List Event} → MakesOneOn c xs p ys es
    → MakesOn c ys ps zs fs → MakesOn c xs (p ∷ ps) zs (es ++ fs)
makes-then {c} {p = p} {ps = ps} f g =
    record {
      from =
          λ s store e b.
          let j = judged (channel_of c) s store p in
          let a = f.from s store e b in
          let m = g.from j.station j.store a.0 ((judged-stays (channel_of c) s store p).blocks ∙ b) in
          rw (all_first (channel_of c) s store p ps) (m.0, λ i. a.1 i ++ m.1 i);
    }

module _ (p d : List ℕ) (h : Packet) (head : h ≡ packet_of p) (carries : data_of p ≡ d) (xs : List Slot) where
  pub makes-fill : {n : ℕ} → 2046 < h.application.0 → MakesOneOn n xs p xs []
  makes-fill {n} l = record { from = λ s store e b. rw (judged-fill (channel_of n) s store p head l) (e, refl) }

  pub makes-other : {n : ℕ} → 2015 < h.application.0 → h.application.0 ≤ 2046 → MakesOneOn n xs p xs (of 13 h.application.0 ∷ [])
  makes-other {n} l m = record { from = λ s store e b. rw (judged-other (channel_of n) s store p head l m) (e, refl) }

  pub makes-damaged : {n : ℕ} → h.application.0 ≤ 2015 → is_intact p ≡ false
      → MakesOneOn n xs p xs (of 4 h.application.0 ∷ [])
  makes-damaged {n} l w = record { from = λ s store e b. rw (judged-damaged (channel_of n) s store p head l w) (e, refl) }

  module _ (u : Undamaged p) where
    file : h.application.0 ≤ 2015
    file = rw head u.file

    -- a file of the pair that is incomplete, and one that is not there
    module _ (n : ℕ) (s : Station) (e : s.slots ≡ xs) where
      found : {k : ℕ} → file_from 0 (channel_of n) h.application xs ≡ Some k → file_of s (channel_of n) h.application ≡ Some k
      unfolding file_of
      found f = rw e f

      none : file_from 0 (channel_of n) h.application xs ≡ None → file_of s (channel_of n) h.application ≡ None
      unfolding file_of
      none f = rw e f

    free : (ys : List Slot) (s : Station) → s.slots ≡ ys → {k : ℕ} → free_from 0 ys ≡ Some k → free_slot s ≡ Some k
    unfolding free_slot
    free ys s e f = rw e f

    -- a packet that starts a file wrongly, where there is none of the pair
    pub makes-wrong : {n : ℕ} → Starting h → begun_of h.flags d ≡ None → file_from 0 (channel_of n) h.application xs ≡ None
        → MakesOneOn n xs p xs (of 7 h.application.0 ∷ [])
    makes-wrong {n} st wrong f =
        record {
          from =
              λ s store e b.
              let c = channel_of n in
              rw (
                judged-starts c s store p head file u.intact st,
                carries,
                starts_none c s store h d (none n s e f),
                begins-wrong c s store h d wrong,
              )
              (e, refl);
        }

    -- a packet that starts a file
    module _ {n : ℕ} (st : Starting h) {t : Transport} (right : begun_of h.flags d ≡ Some t) where
      -- with no file of the pair
      module _ (f : file_from 0 (channel_of n) h.application xs ≡ None) {k : ℕ} (q : free_from 0 xs ≡ Some k) where
        pub makes-open : need t.bits ≤ 7 - needs xs → MakesOneOn n xs p (set xs k (first_slot (channel_of n) h t)) (open_events h k)
        unfolding opened
        makes-open l =
            record {
              from =
                  λ s store e b.
                  let c = channel_of n in
                  let fits : need t.bits ≤ room s = rw (e, b) l in
                  rw (
                    judged-starts c s store p head file u.intact st,
                    carries,
                    starts_none c s store h d (none n s e f),
                    begins-opens c s store h d right (free xs s e q) fits,
                    opens_as c s store h d k t,
                  )
                  (ap (λ (ys : List Slot). set ys k (first_slot c h t)) e, refl);
            }

        pub makes-refused : 7 - needs xs < need t.bits → MakesOneOn n xs p xs (of 9 h.application.0 ∷ [])
        makes-refused l =
            record {
              from =
                  λ s store e b.
                  let c = channel_of n in
                  let over : room s < need t.bits = rw (e, b) l in
                  rw (
                    judged-starts c s store p head file u.intact st,
                    carries,
                    starts_none c s store h d (none n s e f),
                    begins-no-room c s store h d right (free xs s e q) over,
                  )
                  (e, refl);
            }

      -- with an incomplete one in slot j, which is abandoned
      module _ {j : ℕ} (f : file_from 0 (channel_of n) h.application xs ≡ Some j) {k : ℕ} (q : free_from 0 (set xs j no_file) ≡ Some k) where
        pub makes-over : need t.bits ≤ 7 - needs (set xs j no_file)
            → MakesOneOn n xs p (set (set xs j no_file) k (first_slot (channel_of n) h t)) (at 6 h.application.0 j ∷ open_events h k)
        unfolding opened let_go
        makes-over l =
            record {
              from =
                  λ s store e b.
                  let c = channel_of n in
                  let gone : (let_go s j).slots ≡ set xs j no_file = ap (λ (ys : List Slot). set ys j no_file) e in
                  let fits : need t.bits ≤ room (let_go s j) = rw (gone, b) l in
                  rw (
                    judged-starts c s store p head file u.intact st,
                    carries,
                    starts-old c s store h d (found n s e f),
                    begins-opens c (let_go s j) store h d right (free (set xs j no_file) (let_go s j) gone q) fits,
                    opens_as c (let_go s j) store h d k t,
                  )
                  (ap (λ (ys : List Slot). set ys k (first_slot c h t)) gone, refl);
            }

    -- a later packet
    module _ {n : ℕ} (la : Starting h → ⊥) where
      -- of no file
      pub makes-stray : file_from 0 (channel_of n) h.application xs ≡ None → MakesOneOn n xs p xs (of 5 h.application.0 ∷ [])
      makes-stray f =
          record {
            from =
                λ s store e b.
                rw (judged-later (channel_of n) s store p head file u.intact la, carries, continues-none s store h d (none n s e f)) (e, refl);
          }

      -- of a file that is there
      module _ {k : ℕ} (f : file_from 0 (channel_of n) h.application xs ≡ Some k) where
        pub makes-more : goes_on (get_or xs k no_file) h d ≡ true
            → MakesOneOn n xs p (set xs k (next_slot (get_or xs k no_file) h)) (at (next_kind h) h.application.0 k ∷ [])
        makes-more g =
            record {
              from =
                  λ s store e b.
                  let on : goes_on (slot_at s k) h d ≡ true = rw e g in
                  rw (judged-later (channel_of n) s store p head file u.intact la, carries, continues-as s store h d (found n s e f) on)
                  (ap (λ (ys : List Slot). set ys k (next_slot (get_or ys k no_file) h)) e, refl);
            }

        pub makes-end : goes_on (get_or xs k no_file) h d ≡ false → MakesOneOn n xs p (set xs k no_file) (at 6 h.application.0 k ∷ [])
        unfolding let_go
        makes-end g =
            record {
              from =
                  λ s store e b.
                  let off : goes_on (slot_at s k) h d ≡ false = rw e g in
                  rw (judged-later (channel_of n) s store p head file u.intact la, carries, continues-ends s store h d (found n s e f) off)
                  (ap (λ (ys : List Slot). set ys k no_file) e, refl);
            }
