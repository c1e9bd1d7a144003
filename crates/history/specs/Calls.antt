-- Demand 1: what each call answers, of any octets and any state, reached or not; and that a refused call changes nothing. Assumes nothing.
use Rattle.std.specs.Prelude.{◌≡◌, Bool, true, false, List, [], ◌∷◌, ℕ, ◌≤◌, length, Result}
use Rattle.octets.specs.Buffer.{put}
use Rattle.state.specs.Slots.{all_zero_state}
use Rattle.state.specs.Sound.{Sized}
use Rattle.state.specs.Plainly.{Stray}
use Rattle.state.specs.Decision.{among}
use Rattle.events.specs.Event.{flat}
use Rattle.station.specs.SetUp.{set_up_gives, set_up}
use Rattle.station.specs.Files.{file_let_go, read_out, told_of, told_number, told_values}
use Rattle.octets.specs.Reasons.{Reason, numbers, applies}
use Rattle.refusals.specs.declared.Refusal.{Refusal}
use Rattle.facts.specs.declared.Facts.{Facts}
use Rattle.station.specs.Answers.{set_up_says, frame_says, read_says, let_go_says, told_says}
use Rattle.history.specs.Run.{World, Call, frame_in, answer, after}
use Rattle.history.specs.Run.Call.{frame, read, let-go}
use Rattle.history.specs.Things.{said}

-- the numbers of a call in the order in which they are tried, each with its test: the tables of "What the station says"
abbrev pub says : World → Call → List Reason
says w (frame f list) = frame_says w.station w.desks w.store list f
says w (read k offset buffer) = read_says w.station w.store k offset (length buffer)
says w (let-go k) = let_go_says w.station k

-- n is 0 where no number of a table applies, and else one that does
pub record ByNumber (rs : List Reason) (n : ℕ) : Type 0 where
  pub one_of : among n (0 ∷ numbers rs) ≡ true
  pub given : (n ≡ 0 → ⊥) → applies rs n ≡ true
  pub zero : ((m : ℕ) → applies rs m ≡ true → ⊥) → n ≡ 0

-- what a call is lent to write its result into: a frame's event list, a read's buffer
abbrev pub lent_for : Call → List ℕ
lent_for (frame f list) = list
lent_for (read k offset buffer) = buffer
lent_for (let-go k) = []

-- and what stands in it afterwards
unfoldable pub result_of : World → Call → List ℕ
result_of w (frame f list) = (frame_in w f list).list
result_of w (read k offset buffer) = (read_out w.station w.store k offset buffer).buffer
result_of w (let-go k) = []

-- how many events a call says that it gave
unfoldable pub event_count : World → Call → ℕ
event_count w (frame f list) = (frame_in w f list).events
event_count w (read k offset buffer) = 0
event_count w (let-go k) = 0

-- what a call reports beside its number: of a file that is let go, "whether it was complete" (02, 3/14)
unfoldable pub reported : World → Call → Bool
reported w (frame f list) = false
reported w (read k offset buffer) = false
reported w (let-go k) = (file_let_go w.station k).complete

-- "changes no octet of desks or store, no slot and no event"; "Every number but 0 carries no other result"
pub record NothingChanged (w : World) (c : Call) : Type 0 where
  pub world : after w c ≡ w
  pub lent : result_of w c ≡ lent_for c
  pub events : event_count w c ≡ 0
  pub report : reported w c ≡ false

pub record Answers (w : World) (c : Call) : Type 0 where
  -- "answers by the rules paper's numbers"
  pub number : ByNumber (says w c) (answer w c)
  -- "The lowest number that applies is given"
  pub lowest : (n : ℕ) → applies (says w c) n ≡ true → (1 ≤ answer w c) × (answer w c ≤ n)
  -- "A refused call changes .."
  pub refused : (answer w c ≡ 0 → ⊥) → NothingChanged w c

-- what is told of the file in a slot. The call takes the state by value and is lent the store for reading, so it changes nothing, whatever it
-- answers: it is no `Call` of a run, since a run with it is the run without it
abbrev pub told_in : World → ℕ → Result Facts Refusal
told_in w k = told_of w.station w.store k

-- what it answers
pub record TellsByNumber (w : World) (k : ℕ) : Type 0 where
  pub number : ByNumber (told_says w.station w.store k) (told_number (told_in w k))
  -- "The lowest number that applies is given"
  pub lowest :
      (n : ℕ) → applies (told_says w.station w.store k) n ≡ true → (1 ≤ told_number (told_in w k)) × (told_number (told_in w k) ≤ n)
  -- "Every number but 0 carries no other result"
  pub refused : (told_number (told_in w k) ≡ 0 → ⊥) → told_values (told_in w k) ≡ []

-- "2: state not sound": "each desk holds 0 to 8,197 octets, zeros after them". An octet that is not zero there is refused, with any frame
pub record ZerosAfter (w : World) (f list : List ℕ) : Type 0 where
  pub refused : Sized w.station → Stray w.station w.desks → (answer w (frame f list) ≡ 1 → ⊥) → answer w (frame f list) ≡ 2

-- set-up, in whose table "10 comes before 1"; "a refused set-up's state is all zero", and its desks stay
pub record SetsUp (craft : ℕ) (channels desks store : List ℕ) : Type 0 where
  pub number : ByNumber (set_up_says channels desks store) (set_up craft channels desks store).answer
  pub ten : applies (set_up_says channels desks store) 10 ≡ true → (set_up craft channels desks store).answer ≡ 10
  pub refused :
      ((set_up craft channels desks store).answer ≡ 0 → ⊥)
      → set_up craft channels desks store ≡ set_up_gives (set_up craft channels desks store).answer all_zero_state desks

-- "0: done; for a frame, with the number of events"; "After 0 the events fill the list from its start and the rest of it stays."
pub record Told (w : World) (f list : List ℕ) : Type 0 where
  pub count : (frame_in w f list).events ≡ length (said w (frame f list))
  pub listed : (frame_in w f list).list ≡ put list 0 (flat (said w (frame f list)))
