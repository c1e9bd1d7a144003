-- Refusals 3 to 9 of a frame, the lowest number that applies ("What the station says"). Assumes nothing.
use Rattle.std.specs.Prelude.{Bool, not, ◌&&◌, List, ℕ, eqb, length, if◌then◌else◌, Option, Some, None, Result, Ok}
use Rattle.refusals.specs.declared.Refusal.{Refusal}
use Rattle.refusals.specs.Refusals.{refuse}
use Rattle.frame.specs.declared.Channel.{Channel}
use Rattle.frame.specs.declared.Frame.{Frame}
use Rattle.frame.specs.declared.Pointer.{Pointer}
use Rattle.frame.specs.declared.Pointer.TheVariants as pointer
use Rattle.frame.specs.declared.Accepted.{Accepted}
use Rattle.frame.specs.Kinds.{desk_of}
use Rattle.frame.specs.Header.{marker, starts_with, derandomised, frame_of, pointer_meaning}

-- "3 / 4: frame not 1,024 octets / marker differs"
unfoldable pub sized_and_marked : List ℕ → Bool
sized_and_marked f = eqb (length f) 1024 && starts_with marker f

-- "9: pointer 884 to 2046". Behind this the pointer is what it means.
abbrev pub pointed : ℕ → Frame → Pointer → Result Accepted Refusal
pointed d h (pointer.Offset p) = Ok (record { desk = d; counter = h.counter; pointer = pointer.Offset p })
pointed d h pointer.NoStart = Ok (record { desk = d; counter = h.counter; pointer = pointer.NoStart })
pointed d h pointer.Refused = refuse 9

-- "7 / 8: channel 63 (fill) / channel not watched"
abbrev pub watched_by : Frame → Option ℕ → Result Accepted Refusal
watched_by h None = refuse 8
watched_by h (Some d) = pointed d h (pointer_meaning h.pointer)

-- "5 / 6: version not 1 / other spacecraft"
unfoldable pub examined_header : ℕ → List Channel → Frame → Result Accepted Refusal
examined_header craft watched h =
    if not (eqb h.version 1) then refuse 5
    else if not (eqb h.spacecraft craft) then refuse 6
    else if eqb h.channel.0 63 then refuse 7
    else watched_by h (desk_of watched h.channel)

unfoldable pub examined : ℕ → List Channel → List ℕ → Result Accepted Refusal
examined craft watched f =
    if not (eqb (length f) 1024) then refuse 3
    else if not (starts_with marker f) then refuse 4
    else examined_header craft watched (frame_of (derandomised f))

-- the scratch octets for the derandomised frame: written if the frame has its size and its marker
unfoldable pub plain_after : List ℕ → List ℕ → List ℕ
plain_after f before = if sized_and_marked f then derandomised f else before
