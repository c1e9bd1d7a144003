-- What each call gives back, read off the definitions once: the first number of its list that applies, and then nothing changes; or 0, and
-- then what was to be done is done. Assumes nothing.
use Rattle.std.specs.Prelude.{if◌then◌else◌, Option, Some, None, Result, Ok}
use mathlib.Core.Path.{◌≡◌, refl, ◌∙◌}
use mathlib.Core.Bool.{Bool, true, false, not, ◌&&◌, ◌||◌, and-false}
use mathlib.Core.Logic.{◌↔◌}
use mathlib.Core.List.{List, [], ◌∷◌, map}
use Prim.Native.Nat.{ℕ, suc, ◌*◌, ◌/◌, ◌≤◌, ◌<◌}
use native.Mathlib.Decide.{ℕ_discrete}
use native.Mathlib.Omega.{arith}
use borrow.Author.Tests.{not-false, ltb-true, lt-ltb, le-leb, lt-leb, eqb-true}
use lib.Dec.{ltb, leb, eqb}
use lib.ListN.{length, take, replicate, length-replicate}
use Rattle.octets.specs.Number.{part}
use Rattle.octets.proofs.Lists.{if-map}
use Rattle.frame.specs.declared.Channel.{Channel}
use Rattle.frame.specs.declared.Frame.{Frame}
use Rattle.frame.specs.declared.Pointer.{Pointer}
use Rattle.frame.specs.declared.Pointer.TheVariants as pointer
use Rattle.frame.specs.declared.Pointer.TheVariants.{Offset, NoStart}
use Rattle.frame.specs.Kinds.{desk_from, desk_of}
use Rattle.frame.specs.Header.{derandomised, frame_of, pointer_meaning}
use Rattle.frame.specs.Refusals.{pointed, watched_by, examined_header, examined}
use Rattle.frame.proofs.Fields.{bounded}
use Rattle.frame.proofs.Pointers.{Means, means}
use Rattle.transport.specs.Length.{octets_of_bits}
use Rattle.state.specs.declared.Station.{Station}
use Rattle.state.specs.Slots.{slot_at, held, complete, number, all_zero_state}
use Rattle.state.specs.Decision.{among, good_channels, is_sound, are_desks_sound}
use Rattle.octets.proofs.Tests.{and_left, and_right}
use Rattle.room.specs.Move.{let_go}
use Rattle.room.specs.File.{file_octets}
use Rattle.room.proofs.Keeps.{refiled-sized, refiled-desks, let_go-refiles, let_go-sound}
use Rattle.station.specs.SetUp.{SetUpOutcome, set_up_gives, desks_fit, whole_blocks, fresh_station, set_up}
use Rattle.station.specs.Files.{is_held, asked, freed, kept, let_go_as, file_let_go, ReadOutcome, read_gives, store_fits, within, read_as, read_out, facts_in, told_as, told_of, told_number}
use Rattle.station.specs.declared.LetGo.{LetGo}
use Rattle.station.specs.declared.Held.{Held}
use Rattle.station.specs.declared.Held.TheVariants.{Complete, Incomplete}
use Rattle.station.specs.Frame.{FrameOutcome, frame_gives, admitted, taken, examined_frame, framed}
use Rattle.octets.specs.Reasons.{Reason, decided, applies}
use Rattle.station.specs.Answers.{SoundWithMemory, set_up_says, slot_says, let_go_says, read_says, told_says, frame_header_says, frame_says, seat, accepted_as, walked_as}
use Rattle.octets.specs.Reasons.Reason.{◌when◌}
use Rattle.station.proofs.Asking.{complete-held}
use Rattle.octets.proofs.Reasons.{NoneApplies}
use Rattle.refusals.specs.declared.Refusal.{Refusal}
use Rattle.refusals.specs.Refusals.{refuse}
use Rattle.frame.specs.declared.Accepted.{Accepted}
use Rattle.station.proofs.Decided.{Outcome, outcome, never}
use Rattle.station.proofs.Fresh.{few-channels, whole-store, fresh-sized, fresh-sound, fresh-desks}

pub set_up-is : (craft : ℕ) (channels desks store : List ℕ) → set_up craft channels desks store
    ≡ decided (set_up_says channels desks store) (set_up_gives 0 (fresh_station craft channels (length store / 8190)) (replicate (length desks) 0))
    (λ (n : ℕ). set_up_gives n all_zero_state desks)
unfolding set_up
set_up-is craft channels desks store = refl

-- a slot that is asked for, under what comes of the answer
pub asked_is : {A : Type 0} (f : Result Held Refusal → A) (s : Station) (k : ℕ) → f (asked s k)
    ≡ decided (slot_says s k []) (if complete (slot_at s k) then f (Ok (Complete k)) else f (Ok (Incomplete k))) (λ (n : ℕ). f (refuse n))
unfolding asked
asked_is f s k = simp (if-map f)

pub if-not : {A : Type 0} (b : Bool) (x y : A) → (if b then x else y) ≡ (if not b then y else x)
if-not true x y = refl
if-not false x y = refl

module _ (s : Station) (k : ℕ) where
  pub let_go-is : file_let_go s k ≡ decided (let_go_says s k) (freed s k (complete (slot_at s k))) (kept s)
  unfolding file_let_go let_go_as
  let_go-is = asked_is (let_go_as s) s k ∙ rw (either (complete (slot_at s k)))
    where
      either : (b : Bool) → (if b then freed s k true else freed s k false) ≡ freed s k b
      either true = refl
      either false = refl

  pub read_is : (store : List ℕ) (offset : ℕ) (buffer : List ℕ) → read_out s store k offset buffer
      ≡ decided (read_says s store k offset (length buffer)) (read_gives 0 (part offset (length buffer) (file_octets s store k)))
      (λ (n : ℕ). read_gives n buffer)
  unfolding read_out read_as
  read_is store offset buffer =
      let fits = store_fits s.blocks store in
      let inside = within (octets_of_bits (slot_at s k).bits) offset (length buffer) in
      rw (asked_is (read_as s store offset buffer) s k, if-not fits, if-not (complete (slot_at s k)), if-not inside)

  pub told_is : (store : List ℕ) → told_of s store k ≡ decided (told_says s store k) (Ok (facts_in s store k)) refuse
  unfolding told_of told_as
  told_is store =
      rw (asked_is (told_as s store) s k, if-not (store_fits s.blocks store), if-not (complete (slot_at s k)))

-- a channel has a desk exactly if it is named
abbrev has_seat : Option ℕ → Bool
has_seat (Some i) = true
has_seat None = false

named-seat : (i : ℕ) (ws : List Channel) (c : Channel) → among c.0 (map number ws) ≡ has_seat (desk_from i ws c)
unfolding among desk_from
named-seat i [] c = refl
named-seat i (w ∷ ws) c = by (eqb w.0 c.0) (named-seat (suc i) ws c)
  where
    by : (b : Bool) → among c.0 (map number ws) ≡ has_seat (desk_from (suc i) ws c)
        → (b || among c.0 (map number ws)) ≡ has_seat (if b then Some i else desk_from (suc i) ws c)
    by true e = refl
    by false e = e

-- a header that is examined, under what comes of the answer
module _ {A : Type 0} (g : Result Accepted Refusal → A) (h : Frame) (few : h.pointer < 2048) where
  pointed-is : (d : ℕ) (m : Pointer) → Means h.pointer m
      → g (pointed d h m)
      ≡ (if leb 884 h.pointer && leb h.pointer 2046 then g (refuse 9)
      else g (Ok (record { desk = d; counter = h.counter; pointer = m })))
  pointed-is d (Offset q) (same, low) = rw (lt-leb 884 h.pointer low)
  pointed-is d NoStart e = rw (lt-leb h.pointer 2046 (omega arith), and-false)
  pointed-is d pointer.Refused (from, other) = rw (le-leb 884 h.pointer from, le-leb h.pointer 2046 (omega arith))

  watched-is : (w : Option ℕ) → g (watched_by h w)
      ≡ (if not (has_seat w) then g (refuse 8)
      else if leb 884 h.pointer && leb h.pointer 2046 then g (refuse 9)
      else g (Ok (record { desk = seat w; counter = h.counter; pointer = pointer_meaning h.pointer })))
  watched-is (Some d) = pointed-is d (pointer_meaning h.pointer) (means h.pointer)
  watched-is None = refl

  header_is : (s : Station) → g (examined_header s.spacecraft (take s.channels s.watched) h)
      ≡ decided (frame_header_says s h) (g (Ok (accepted_as s h))) (λ (n : ℕ). g (refuse n))
  unfolding examined_header desk_of
  header_is s =
      let ws = take s.channels s.watched in
      simp (if-map g, watched-is (desk_from 0 ws h.channel), named-seat 0 ws h.channel)

module _ (s : Station) (desks store list f : List ℕ) where
  pub frame_is : framed s desks store list f
      ≡ decided (frame_says s desks store list f) (taken s list (walked_as s desks store f)) (λ (n : ℕ). frame_gives n 0 s desks store list)
  unfolding framed admitted examined examined_frame
  frame_is =
      let g = examined_frame s desks store list f in
      simp (if-map g, header_is g (frame_of (derandomised f)) (bounded (derandomised f)).pointer s)

-- what the numbers of each call say
module _ (s : Station) (k : ℕ) where
  pub let_go-outcome : Outcome (λ (r : LetGo). r.answer) (let_go_says s k) (freed s k (complete (slot_at s k))) (kept s) (file_let_go s k)
  unfolding among
  let_go-outcome = rw (let_go-is s k) (outcome _ (let_go_says s k) _ _ refl (λ n. refl) refl)

  pub read-outcome : (store : List ℕ) (offset : ℕ) (buffer : List ℕ)
      → Outcome (λ (r : ReadOutcome). r.answer) (read_says s store k offset (length buffer))
      (read_gives 0 (part offset (length buffer) (file_octets s store k))) (λ (n : ℕ). read_gives n buffer) (read_out s store k offset buffer)
  unfolding among
  read-outcome store offset buffer =
      rw (read_is s k store offset buffer) (outcome _ (read_says s store k offset (length buffer)) _ _ refl (λ n. refl) refl)

  pub told-outcome : (store : List ℕ) → Outcome told_number (told_says s store k) (Ok (facts_in s store k)) refuse (told_of s store k)
  unfolding among
  told-outcome store = rw (told_is s k store) (outcome _ (told_says s store k) _ _ refl (λ n. refl) refl)

pub set_up-outcome : (craft : ℕ) (channels desks store : List ℕ) → Outcome (λ (r : SetUpOutcome). r.answer) (set_up_says channels desks store)
    (set_up_gives 0 (fresh_station craft channels (length store / 8190)) (replicate (length desks) 0)) (λ (n : ℕ). set_up_gives n all_zero_state desks)
    (set_up craft channels desks store)
unfolding among
set_up-outcome craft channels desks store =
    rw (set_up-is craft channels desks store) (outcome _ (set_up_says channels desks store) _ _ refl (λ n. refl) refl)

pub frame-outcome : (s : Station) (desks store list f : List ℕ) → Outcome (λ (r : FrameOutcome). r.answer) (frame_says s desks store list f)
    (taken s list (walked_as s desks store f)) (λ (n : ℕ). frame_gives n 0 s desks store list) (framed s desks store list f)
unfolding among
frame-outcome s desks store list f =
    rw (frame_is s desks store list f) (outcome _ (frame_says s desks store list f) _ _ refl (λ n. refl) refl)

-- the numbers that each call can give
module _ (s : Station) (k : ℕ) where
  pub let_go-answers : among (file_let_go s k).answer (0 ∷ 2 ∷ 11 ∷ []) ≡ true
  let_go-answers = (let_go-outcome s k).one_of

  pub read-answers : (store : List ℕ) (offset : ℕ) (buffer : List ℕ)
      → among (read_out s store k offset buffer).answer (0 ∷ 1 ∷ 2 ∷ 11 ∷ 12 ∷ 14 ∷ []) ≡ true
  read-answers store offset buffer = (read-outcome s k store offset buffer).one_of

  pub told-answers : (store : List ℕ) → among (told_number (told_of s store k)) (0 ∷ 1 ∷ 2 ∷ 11 ∷ 12 ∷ []) ≡ true
  told-answers store = (told-outcome s k store).one_of

pub set_up-answers : (craft : ℕ) (channels desks store : List ℕ) → among (set_up craft channels desks store).answer (0 ∷ 10 ∷ 1 ∷ []) ≡ true
set_up-answers craft channels desks store = (set_up-outcome craft channels desks store).one_of

pub frame-answers : (s : Station) (desks store list f : List ℕ)
    → among (framed s desks store list f).answer (0 ∷ 1 ∷ 2 ∷ 3 ∷ 4 ∷ 5 ∷ 6 ∷ 7 ∷ 8 ∷ 9 ∷ []) ≡ true
frame-answers s desks store list f = (frame-outcome s desks store list f).one_of

-- "The lowest number that applies is given, except that at set-up 10 comes before 1"
module _ (s : Station) (k : ℕ) where
  pub let_go-lowest : (n : ℕ) → applies (let_go_says s k) n ≡ true → (1 ≤ (file_let_go s k).answer) × ((file_let_go s k).answer ≤ n)
  let_go-lowest = (let_go-outcome s k).lowest refl

  pub read-lowest : (store : List ℕ) (offset : ℕ) (buffer : List ℕ) (n : ℕ) → applies (read_says s store k offset (length buffer)) n ≡ true
      → (1 ≤ (read_out s store k offset buffer).answer) × ((read_out s store k offset buffer).answer ≤ n)
  read-lowest store offset buffer = (read-outcome s k store offset buffer).lowest refl

  pub told-lowest : (store : List ℕ) (n : ℕ) → applies (told_says s store k) n ≡ true
      → (1 ≤ told_number (told_of s store k)) × (told_number (told_of s store k) ≤ n)
  told-lowest store = (told-outcome s k store).lowest refl

pub frame-lowest : (s : Station) (desks store list f : List ℕ) (n : ℕ) → applies (frame_says s desks store list f) n ≡ true
    → (1 ≤ (framed s desks store list f).answer) × ((framed s desks store list f).answer ≤ n)
frame-lowest s desks store list f = (frame-outcome s desks store list f).lowest refl

pub set_up-ten : (craft : ℕ) (channels desks store : List ℕ) → good_channels channels ≡ false → (set_up craft channels desks store).answer ≡ 10
set_up-ten craft channels desks store bad = rw (set_up-is craft channels desks store, bad)

-- none of the reasons that come first holds of a slot
asked-exactly : (s : Station) (k : ℕ) (rs : List Reason)
    → NoneApplies (slot_says s k rs) ↔ ((is_sound s ≡ true) × (k < 32) × (held (slot_at s k) ≡ true) × NoneApplies rs)
asked-exactly s k rs = (to, back)
  where
    to : NoneApplies (slot_says s k rs) → (is_sound s ≡ true) × (k < 32) × (held (slot_at s k) ≡ true) × NoneApplies rs
    to (a, (b, g)) =
        let here = not-false (is_held s k) b in (
          not-false (is_sound s) a,
          ltb-true k 32 (and_left (ltb k 32) (held (slot_at s k)) here),
          and_right (ltb k 32) (held (slot_at s k)) here,
          g,
        )

    back : (is_sound s ≡ true) × (k < 32) × (held (slot_at s k) ≡ true) × NoneApplies rs → NoneApplies (slot_says s k rs)
    back (sound, low, here, g) = (rw sound, (rw (lt-ltb k 32 low, here), g))

-- what 0 means
module _ (s : Station) (k : ℕ) where
  -- "frees any held file"
  pub let_go-zero : ((file_let_go s k).answer ≡ 0) ↔ ((is_sound s ≡ true) × (k < 32) × (held (slot_at s k) ≡ true))
  let_go-zero =
      let o = (let_go-outcome s k).zero in
      let a = asked-exactly s k [] in (
        λ e. let (sound, low, here, g) = a.0 (o.0 e) in (sound, low, here),
        λ (sound, low, here). o.1 (a.1 (sound, low, here, tt)),
      )

  pub read-zero : (store : List ℕ) (offset : ℕ) (buffer : List ℕ) → ((read_out s store k offset buffer).answer ≡ 0)
      ↔ ((store_fits s.blocks store ≡ true) × (is_sound s ≡ true) × (k < 32) × (complete (slot_at s k) ≡ true)
      × (within (octets_of_bits (slot_at s k).bits) offset (length buffer) ≡ true))
  read-zero store offset buffer =
      let o = (read-outcome s k store offset buffer).zero in
      let fits = store_fits s.blocks store in
      let inside = within (octets_of_bits (slot_at s k).bits) offset (length buffer) in
      let whole = complete (slot_at s k) in
      let a = asked-exactly s k ((12 when not whole) ∷ (14 when not inside) ∷ []) in (
        λ e.
            let (f, g) = o.0 e in
            let (sound, low, here, (w, (i, u))) = a.0 g in
            (not-false fits f, sound, low, not-false whole w, not-false inside i),
        λ (f, sound, low, w, i). o.1 (rw f, a.1 (sound, low, complete-held (slot_at s k) w, (rw w, (rw i, tt)))),
      )

  pub told-zero : (store : List ℕ) → (told_number (told_of s store k) ≡ 0)
      ↔ ((store_fits s.blocks store ≡ true) × (is_sound s ≡ true) × (k < 32) × (complete (slot_at s k) ≡ true))
  told-zero store =
      let o = (told-outcome s k store).zero in
      let fits = store_fits s.blocks store in
      let whole = complete (slot_at s k) in
      let a = asked-exactly s k ((12 when not whole) ∷ []) in (
        λ e.
            let (f, g) = o.0 e in
            let (sound, low, here, (w, u)) = a.0 g in
            (not-false fits f, sound, low, not-false whole w),
        λ (f, sound, low, w). o.1 (rw f, a.1 (sound, low, complete-held (slot_at s k) w, (rw w, tt))),
      )

pub set_up-zero : (craft : ℕ) (channels desks store : List ℕ) → ((set_up craft channels desks store).answer ≡ 0)
    ↔ ((good_channels channels ≡ true) × (desks_fit (length channels) desks ≡ true) × (whole_blocks store ≡ true))
set_up-zero craft channels desks store =
    let o = (set_up-outcome craft channels desks store).zero in
    let fits = desks_fit (length channels) desks in
    let whole = whole_blocks store in (
      λ e.
          let (g, (m, u)) = o.0 e in
          let lent = not-false (fits && whole) m in
          (not-false (good_channels channels) g, and_left fits whole lent, and_right fits whole lent),
      λ (g, f, w). o.1 (rw g, (rw (f, w), tt)),
    )

-- "no call is answered by 2", where the state is sound
module _ (s : Station) (k : ℕ) (sound : is_sound s ≡ true) where
  pub let_go-never-2 : (file_let_go s k).answer ≡ 2 → ⊥
  let_go-never-2 = never (let_go-outcome s k) 2 (omega arith) (rw sound)

  pub frame-never-2 : (desks store list f : List ℕ) → are_desks_sound s desks ≡ true → (framed s desks store list f).answer ≡ 2 → ⊥
  frame-never-2 desks store list f d = never (frame-outcome s desks store list f) 2 (omega arith) (rw (sound, d))

  pub read-never-2 : (store : List ℕ) (offset : ℕ) (buffer : List ℕ) → (read_out s store k offset buffer).answer ≡ 2 → ⊥
  read-never-2 store offset buffer = never (read-outcome s k store offset buffer) 2 (omega arith) (rw sound)

  pub told-never-2 : (store : List ℕ) → told_number (told_of s store k) ≡ 2 → ⊥
  told-never-2 store = never (told-outcome s k store) 2 (omega arith) (rw sound)

-- letting a file go keeps it
module _ (s : Station) (k : ℕ) where
  let_go-cases : (P : Station → Type 0) → (k < 32 → P (let_go s k)) → P s → P (file_let_go s k).station
  let_go-cases P gone same =
      let o = let_go-outcome s k in
      elim (ℕ_discrete (file_let_go s k).answer 0) [
        | yes e ↦ rw (o.done e) (gone ((let_go-zero s k).0 e).1)
        | no f ↦ rw (o.refused f).0 same
      ]

  pub let_go-ready : (desks store : List ℕ) → SoundWithMemory s desks store → SoundWithMemory (file_let_go s k).station desks store
  unfolding let_go
  let_go-ready desks store h = let_go-cases (λ (t : Station). SoundWithMemory t desks store) gone h
    where
      gone : k < 32 → SoundWithMemory (let_go s k) desks store
      gone low =
          record {
            sized = refiled-sized (let_go-refiles s k) h.sized;
            sound = let_go-sound h.sized h.sound low;
            desks = refiled-desks (let_go-refiles s k) desks h.desks;
            desked = h.desked;
            stored = h.stored;
          }

module _ (craft : ℕ) (channels desks store : List ℕ) where
  fresh-ready : good_channels channels ≡ true → desks_fit (length channels) desks ≡ true → whole_blocks store ≡ true
      → SoundWithMemory (fresh_station craft channels (length store / 8190)) (replicate (length desks) 0) store
  unfolding fresh_station
  fresh-ready good fit whole =
      let n = length store / 8190 in
      let l : length desks ≡ 8198 * length channels = eqb-true (length desks) (8198 * length channels) fit in
      let w = whole-store store whole in
      record {
        sized = fresh-sized craft channels n (few-channels channels good);
        sound = fresh-sound craft channels n good w.one w.most;
        desks = rw l (fresh-desks craft channels n);
        desked = length-replicate (length desks) 0 ∙ l;
        stored = w.all;
      }

  -- a set-up answered by 0
  pub set_up-ready : (set_up craft channels desks store).answer ≡ 0
      → SoundWithMemory (set_up craft channels desks store).station (set_up craft channels desks store).desks store
  set_up-ready e =
      let (good, fit, whole) = (set_up-zero craft channels desks store).0 e in
      rw ((set_up-outcome craft channels desks store).done e) (fresh-ready good fit whole)
