-- "What the station says", call by call: the numbers in the order in which they are tried, each with the test that it applies. That each
-- call gives what is decided so is proved (proofs/Calls.antt). Assumes nothing.
use Rattle.std.specs.Prelude.{◌≡◌, not, ◌&&◌, List, [], ◌∷◌, ℕ, ◌*◌, leb, eqb, length, take, Option, Some, None}
use Rattle.octets.specs.Reasons.{Reason}
use Rattle.octets.specs.Reasons.Reason.{◌when◌}
use Rattle.frame.specs.declared.Accepted.{Accepted}
use Rattle.frame.specs.declared.Frame.{Frame}
use Rattle.frame.specs.Kinds.{desk_of}
use Rattle.frame.specs.Header.{marker, starts_with, derandomised, frame_of, zone_of, pointer_meaning}
use Rattle.transport.specs.Length.{octets_of_bits}
use Rattle.state.specs.declared.Station.{Station}
use Rattle.state.specs.Slots.{slot_at, complete, named}
use Rattle.state.specs.Sound.{Sized, Sound, DesksSound}
use Rattle.state.specs.Decision.{among, good_channels, is_sound, are_desks_sound}
use Rattle.zone.specs.Walk.{Walked, walked}
use Rattle.station.specs.SetUp.{desks_fit, whole_blocks}
use Rattle.station.specs.Files.{is_held, store_fits, within}
use Rattle.station.specs.Frame.{lent_right, channel_at}

-- "at set-up 10 comes before 1"
abbrev pub set_up_says : List ℕ → List ℕ → List ℕ → List Reason
set_up_says channels desks store =
    (10 when not (good_channels channels)) ∷ (1 when not (desks_fit (length channels) desks && whole_blocks store)) ∷ []

-- every call that names a slot, before its own reasons
abbrev pub slot_says : Station → ℕ → List Reason → List Reason
slot_says s k rs = (2 when not (is_sound s)) ∷ (11 when not (is_held s k)) ∷ rs

-- letting a file go: it has no reasons of its own (02, 3/14)
abbrev pub let_go_says : Station → ℕ → List Reason
let_go_says s k = slot_says s k []

-- a read of n octets from an offset on
abbrev pub read_says : Station → List ℕ → ℕ → ℕ → ℕ → List Reason
read_says s store k offset n =
    (1 when not (store_fits s.blocks store))
    ∷ slot_says s k
    ((12 when not (complete (slot_at s k))) ∷ (14 when not (within (octets_of_bits (slot_at s k).bits) offset n)) ∷ [])

-- the facts of a file
abbrev pub told_says : Station → List ℕ → ℕ → List Reason
told_says s store k = (1 when not (store_fits s.blocks store)) ∷ slot_says s k ((12 when not (complete (slot_at s k))) ∷ [])

-- a frame whose header, derandomised, is h; the pointer has 11 bits
abbrev pub frame_header_says : Station → Frame → List Reason
frame_header_says s h =
    (5 when not (eqb h.version 1))
    ∷ (6 when not (eqb h.spacecraft s.spacecraft))
    ∷ (7 when eqb h.channel.0 63)
    ∷ (8 when not (among h.channel.0 (named s)))
    ∷ (9 when (leb 884 h.pointer && leb h.pointer 2046))
    ∷ []

abbrev pub frame_says : Station → List ℕ → List ℕ → List ℕ → List ℕ → List Reason
frame_says s desks store list f =
    (1 when not (lent_right s desks store list))
    ∷ (2 when not (is_sound s && are_desks_sound s desks))
    ∷ (3 when not (eqb (length f) 1024))
    ∷ (4 when not (starts_with marker f))
    ∷ frame_header_says s (frame_of (derandomised f))

-- the place of a channel that is watched
abbrev pub seat : Option ℕ → ℕ
seat (Some i) = i
seat None = 0

-- a frame for which none of these applies: its desk is that of its channel, "in the order named"
abbrev pub accepted_as : Station → Frame → Accepted
accepted_as s h =
    record { desk = seat (desk_of (take s.channels s.watched) h.channel); counter = h.counter; pointer = pointer_meaning h.pointer }

-- and what comes of it
abbrev pub walked_as : Station → List ℕ → List ℕ → List ℕ → Walked
walked_as s desks store f =
    let a : Accepted = accepted_as s (frame_of (derandomised f)) in
    walked (channel_at s a.desk) s desks store (zone_of (derandomised f)) a

-- a sound state, and desks and store of its size, with the desks' octets in order: what a set-up answered by 0 hands over, and every call
-- leaves
pub record SoundWithMemory (s : Station) (d m : List ℕ) : Type 0 where
  pub sized : Sized s
  pub sound : Sound s
  pub desks : DesksSound s d
  pub desked : length d ≡ 8198 * s.channels
  pub stored : length m ≡ 8190 * s.blocks
