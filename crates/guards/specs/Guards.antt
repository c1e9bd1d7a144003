-- Runs of real frames that meet the premises of the demands, so that none of these is empty: what each of them gives, to the last event.
-- Assumes nothing.
use Rattle.std.specs.Prelude.{◌≡◌, true, false, List, [], ◌∷◌, ◌++◌, ℕ, ◌+◌, ◌≤◌, length, None, Ok, Result}
use Rattle.octets.specs.Number.{Octets}
use Rattle.refusals.specs.declared.Refusal.{Refusal}
use Rattle.refusals.specs.Refusals.{refuse}
use Rattle.records.specs.declared.Header.{Header}
use Rattle.records.specs.Reader.{read_header}
use Rattle.state.specs.Slots.{slot_at, complete}
use Rattle.transport.specs.declared.Transport.{Transport}
use Rattle.events.specs.Event.{of, at}
use Rattle.judge.specs.Packets.{Starts}
use Rattle.history.specs.Run.{Call, answer, run, Start, fresh}
use Rattle.history.specs.Run.Call.{frame, read, let-go}
use Rattle.history.specs.Calls.{result_of, reported, told_in}
use Rattle.history.specs.Store.{Moment}
use Rattle.history.specs.Headers.{whole_read}
use Rattle.guards.specs.Losses.{LossRuns}
use Rattle.guards.specs.Sent.{Program, sent, ten_frames_on, ten_frames, all_said, first, middle, tiny, last, fill, whole_of, whole, damaged, reserved, header_alone, twelve_bits}

-- the lengths of these files in bits: N = 2, 3, 5 and 7, and the last packet has one octet
abbrev pub two_blocks : ℕ
two_blocks = 65448

abbrev pub three_blocks : ℕ
three_blocks = 130968

abbrev pub five_blocks : ℕ
five_blocks = 262008

abbrev pub seven_blocks : ℕ
seven_blocks = 393048

-- "For one frame on channel 2, pointer 0, with a whole packet (application 5, L = 8) and one fill packet of 865 octets"
abbrev pub published : List ℕ → List Call
published list = frame (sent 0 0 (whole ++ fill 865)) list ∷ []

-- "L = 65,448: N = 2, last packet 1 octet"
abbrev pub two_packets : List ℕ → List Call
two_packets list = ten_frames 0 (first 5 two_blocks ++ (last 5 1 ++ fill 633)) list

-- the same with a packet of the pair lost before the last
abbrev pub one_lost : List ℕ → List Call
one_lost list = ten_frames 0 (first 5 two_blocks ++ (last 5 2 ++ fill 633)) list

-- "Seven blocks, one held file of 5; three separate runs": its first packet
abbrev pub held_file : List ℕ → List Call
held_file list = ten_frames 0 (first 5 five_blocks ++ fill 642) list

-- "N = 2 opens"
abbrev pub needs_two : List ℕ → List Call
needs_two list = held_file list ++ ten_frames 10 (first 6 two_blocks ++ fill 642) list

-- "N = 3 gives 9"
abbrev pub needs_three : List ℕ → List Call
needs_three list = held_file list ++ ten_frames 10 (first 6 three_blocks ++ fill 642) list

-- "after the held file's release N = 7 opens": the file of 5 comes to its end, and is let go
abbrev pub needs_seven : List ℕ → List Call
needs_seven list =
    held_file list ++ ten_frames 10 (middle 5 1 ++ fill 642) list ++ ten_frames 20 (middle 5 2 ++ fill 642) list
    ++ ten_frames 30 (middle 5 3 ++ (last 5 4 ++ fill 633)) list
    ++ (let-go 0 ∷ [])
    ++ ten_frames 40 (first 6 seven_blocks ++ fill 642) list

-- "frees any held file" (02, 3/14): the same behind its first packet
abbrev pub let_go_early : List ℕ → List Call
let_go_early list = held_file list ++ (let-go 0 ∷ []) ++ ten_frames 10 (first 6 seven_blocks ++ fill 642) list

-- "An abandoned .. file frees its slot and blocks", at once: all seven blocks are those of a file of 5; one frame brings its end, by a middle
-- packet of one octet, and a whole file of 6 behind it
abbrev pub freed_at_once : List ℕ → List Call
freed_at_once list =
    ten_frames 0 (first 5 seven_blocks ++ fill 642) list ++ (frame (sent 10 0 (tiny 0 5 1 ++ (whole_of 6 ++ fill 856))) list ∷ [])

-- ".. otherwise the lowest free slot": the file of 4 leaves slot 0, and a whole packet then abandons the file of 5 in slot 1
abbrev pub lower_slot : List ℕ → List Call
lower_slot list =
    (frame (sent 0 0 (whole_of 4 ++ fill 865)) list ∷ [])
    ++ ten_frames 1 (first 5 two_blocks ++ fill 642) list
    ++ (let-go 0 ∷ [])
    ++ (frame (sent 11 0 (whole ++ fill 865)) list ∷ [])

-- "for the file of this channel and application": the first packet comes on channel 0, the last one on channel 2
abbrev pub two_channels : List ℕ → List Call
two_channels list = ten_frames_on 0 0 (first 5 two_blocks ++ fill 642) list ++ (frame (sent 0 0 (last 5 1 ++ fill 875)) list ∷ [])

-- "Wrong: event 4", "2016 to 2046: event 13", "Event 7 if the data is under 10 octets": one frame with a packet of each, and no file touched
abbrev pub none_touched : List ℕ → List Call
none_touched list = frame (sent 0 0 (damaged ++ (reserved ++ (tiny 1 5 0 ++ fill 856)))) list ∷ []

-- "its header records are read to their published meaning or refused by number": a file whose header is good
abbrev pub good_header : List ℕ → List Call
good_header list = frame (sent 0 0 (header_alone ++ fill 850)) list ∷ []

-- "The case L = 12 changes to N = 1 with 12 octets of data" (02, 2/14)
abbrev pub part_of_an_octet : List ℕ → List Call
part_of_an_octet list = frame (sent 0 0 (twelve_bits ++ fill 864)) list ∷ []

-- the file in slot 0 read out, and what the header reader says of it
abbrev pub read_out : Start → List Call → List ℕ
read_out x cs = result_of (run (fresh x) cs) (whole_read (run (fresh x) cs) 0)

abbrev pub header_read_out : Start → List Call → Result Header Refusal
header_read_out x cs = read_header (read_out x cs)

-- what these runs give, from any set-up of the program and with any list of the size that is asked for
pub record Runs (x : Start) (list : List ℕ) : Type 0 where
  pub is-published : all_said (fresh x) (published list) ≡ at 10 5 0 ∷ at 12 5 0 ∷ []
  pub completed : all_said (fresh x) (two_packets list) ≡ at 10 5 0 ∷ at 12 5 0 ∷ []
  pub complete-then : complete (slot_at (run (fresh x) (two_packets list)).station 0) ≡ true
  pub abandoned : all_said (fresh x) (one_lost list) ≡ at 10 5 0 ∷ at 6 5 0 ∷ []
  pub two-open : all_said (fresh x) (needs_two list) ≡ at 10 5 0 ∷ at 10 6 1 ∷ []
  pub three-refused : all_said (fresh x) (needs_three list) ≡ at 10 5 0 ∷ of 9 6 ∷ []
  pub seven-open : all_said (fresh x) (needs_seven list) ≡ at 10 5 0 ∷ at 11 5 0 ∷ at 11 5 0 ∷ at 11 5 0 ∷ at 12 5 0 ∷ at 10 6 0 ∷ []
  pub seven-early : all_said (fresh x) (let_go_early list) ≡ at 10 5 0 ∷ at 10 6 0 ∷ []
  -- "and reports whether it was complete" (02, 3/14)
  pub reports-whole : reported (run (fresh x) (two_packets list)) (let-go 0) ≡ true
  pub reports-part : reported (run (fresh x) (held_file list)) (let-go 0) ≡ false
  pub freed-at-once : all_said (fresh x) (freed_at_once list) ≡ at 10 5 0 ∷ at 6 5 0 ∷ at 10 6 0 ∷ at 12 6 0 ∷ []
  pub lower-slot : all_said (fresh x) (lower_slot list) ≡ at 10 4 0 ∷ at 12 4 0 ∷ at 10 5 1 ∷ at 6 5 1 ∷ at 10 5 0 ∷ at 12 5 0 ∷ []
  pub two-channels : all_said (fresh x) (two_channels list) ≡ at 10 5 0 ∷ of 5 5 ∷ []
  pub none-touched : all_said (fresh x) (none_touched list) ≡ of 4 5 ∷ of 13 2016 ∷ of 7 5 ∷ []
  pub twelve-bits : all_said (fresh x) (part_of_an_octet list) ≡ at 10 5 0 ∷ at 12 5 0 ∷ []
  -- its octets, with the bits that fill up the last one as they came
  pub twelve-read : read_out x (part_of_an_octet list) ≡ 0xab ∷ 0xcf ∷ []
  -- its channel, its application, its counter and L (02, 5/14)
  pub twelve-told :
      told_in (run (fresh x) (part_of_an_octet list)) 0
      ≡ Ok (record { channel = record { 0 = 2 }; application = record { 0 = 5 }; counter = 258; bits = 12 })
  -- "read passes the file's end": no read of more, or from behind it, is answered by 0
  pub twelve-end :
      (offset : ℕ) (buffer : List ℕ) → answer (run (fresh x) (part_of_an_octet list)) (read 0 offset buffer) ≡ 0 → offset + length buffer ≤ 2
  -- "20: header: fewer than 16 octets": the published file has one
  pub header_refused : header_read_out x (published list) ≡ refuse 20
  pub header_read :
      header_read_out x (good_header list)
      ≡ Ok (record { primary = record { filetype = 2; length = 16; bits = 0 }; image = None; navigation = None; time = None; segment = None })

pub record Guards : Type 0 where
  -- there is such a set-up
  pub set-up : (x : Start) × Program x
  -- there is a moment at which a packet that starts a file is judged, on a frame of octets
  pub moment : (m : Moment) × Octets m.sent × (t : Transport) × Starts m.p t
  pub runs : (x : Start) → Program x → (list : List ℕ) → 900 ≤ length list → Runs x list
  -- and runs in which octets are lost
  pub losses : LossRuns
