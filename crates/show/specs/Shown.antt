-- What H of the trial script prints (docs/TRIAL.md): "shows everything". Assumes nothing.
use Rattle.std.specs.Prelude.{Bool, ◌&&◌, List, [], ◌∷◌, ◌++◌, ℕ, suc, ◌+◌, eqb, take, if◌then◌else◌}
use Rattle.crc.specs.Crc.{crc_of}
use Rattle.text.specs.Pieces.{spaced}
use Rattle.text.specs.Lines.{spaced_three, newline}
use Rattle.frame.specs.declared.Channel.{Channel}
use Rattle.state.specs.declared.Slot.{Slot}
use Rattle.state.specs.declared.Desk.{Desk}
use Rattle.state.specs.declared.Station.{Station}
use Rattle.state.specs.Blocks.{numbers_of, table}

-- "H desks store, the CRC (as in 01) of the octets lent of each, in decimal"
abbrev pub head_line : List ℕ → List ℕ → List ℕ
head_line desks store = 0x48 ∷ [] ++ spaced (crc_of desks) ++ spaced (crc_of store) ++ newline

-- "each slot whose five fields are not all zero"
unfoldable pub all_fields_zero : Slot → Bool
all_fields_zero x =
    eqb x.channel.0 0 && eqb x.application.0 0 && eqb x.bits 0 && eqb x.count.0 0 && eqb x.accepted 0

-- numbers, each behind a space
unfoldable pub spaced_all : List ℕ → List ℕ
spaced_all [] = []
spaced_all (v ∷ vs) = spaced v ++ spaced_all vs

-- "T slot channel application length count accepted and after it the numbers of the blocks .. that the table gives to the slot, rising"
abbrev pub slot_line : ℕ → Slot → List ℕ → List ℕ
slot_line k x table =
    0x54 ∷ [] ++ spaced_three k x.channel.0 x.application.0 ++ spaced_three x.bits x.count.0 x.accepted
    ++ spaced_all (numbers_of (k + 1) 0 table) ++ newline

-- "K channel held seen counter (seen is 0 or 1)"
abbrev pub channel_line : ℕ → Desk → List ℕ
channel_line channel d =
    0x4B ∷ [] ++ spaced_three channel d.held (if d.seen then 1 else 0) ++ spaced d.counter.0 ++ newline

-- "for each slot whose five fields are not all zero, rising": slots from number k on
unfoldable pub slot_lines : ℕ → List Slot → List ℕ → List ℕ
slot_lines k [] owners = []
slot_lines k (x ∷ xs) owners = (if all_fields_zero x then [] else slot_line k x owners) ++ slot_lines (suc k) xs owners

-- "in the order named": a line for each channel, with its desk
unfoldable pub channel_lines : List Channel → List Desk → List ℕ
channel_lines [] ds = []
channel_lines (c ∷ cs) [] = []
channel_lines (c ∷ cs) (d ∷ ds) = channel_line c.0 d ++ channel_lines cs ds

-- "shows everything": the checks, the slots with the blocks "that the table gives to the slot", then "as many channels as the state says, at
-- most 8"; the table has 4,096 entries and the state 8 channels, so that taking more of them takes them all
unfoldable pub shown : Station → List ℕ → List ℕ → List ℕ
shown s desks store =
    head_line desks store ++ slot_lines 0 s.slots (table s) ++ channel_lines (take s.channels s.watched) s.desks
