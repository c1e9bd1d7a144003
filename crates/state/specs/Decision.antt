-- Soundness as a test. That it answers true exactly if the state is sound is proved (proofs/Exactly.antt). Assumes nothing.
use Rattle.std.specs.Prelude.{Bool, true, false, not, ◌&&◌, ◌||◌, List, [], ◌∷◌, ℕ, zero, suc, leb, ltb, eqb, length, take, drop, if◌then◌else◌}
use Rattle.octets.specs.Buffer.{all_zero}
use Rattle.octets.specs.Each.{each}
use Rattle.packet.specs.declared.Look.{Look}
use Rattle.packet.specs.declared.Look.TheVariants.{Short, Bad, Good}
use Rattle.packet.specs.Header.{look_of, size_of}
use Rattle.transport.specs.Length.{good_length}
use Rattle.state.specs.declared.Slot.{Slot}
use Rattle.state.specs.declared.Desk.{Desk}
use Rattle.state.specs.declared.Station.{Station}
use Rattle.state.specs.Slots.{held, incomplete, need_of, of_pair, named}
use Rattle.state.specs.Blocks.{numbers_of, table}
use Rattle.state.specs.Sound.{desk_octets}

unfoldable pub among : ℕ → List ℕ → Bool
among c [] = false
among c (x ∷ xs) = eqb x c || among c xs

-- "distinct channels 0 to 62"
unfoldable pub distinct_channels : List ℕ → Bool
distinct_channels [] = true
distinct_channels (c ∷ cs) = leb c 62 && not (among c cs) && distinct_channels cs

-- "1 to 8 distinct channels 0 to 62"
unfoldable pub good_channels : List ℕ → Bool
good_channels cs = leb 1 (length cs) && leb (length cs) 8 && distinct_channels cs

-- set-up: so many channels, those named among them, and so many blocks
unfoldable pub set_up_sound : ℕ → List ℕ → ℕ → Bool
set_up_sound channels names blocks = leb channels 8 && good_channels names && leb 1 blocks && leb blocks 4096

-- an owner: 0 for none, else a slot's number plus 1
abbrev pub is_owner : ℕ → Bool
is_owner o = leb o 32

-- "a free slot is all zero", and owns no block
abbrev pub free_sound : ℕ → Slot → Bool
free_sound n x = eqb x.channel.0 0 && eqb x.application.0 0 && eqb x.bits 0 && eqb x.count.0 0 && eqb n 0

-- a slot that is the owner of n blocks
unfoldable pub slot_sound : List ℕ → ℕ → Slot → Bool
slot_sound watched n x =
    if held x
    then
    leb x.accepted (need_of x) && among x.channel.0 watched && leb x.application.0 2015 && good_length x.bits
    && ltb x.count.0 16384
    && eqb n (need_of x)
    else free_sound n x

-- how many entries of a table are owned by slots k, k + 1, .., for n slots
unfoldable pub block_counts : List ℕ → ℕ → ℕ → List ℕ
block_counts t k zero = []
block_counts t k (suc n) = length (numbers_of (suc k) 0 t) ∷ block_counts t (suc k) n

-- each slot, with the number of its blocks
unfoldable pub slots_sound : List ℕ → List ℕ → List Slot → Bool
slots_sound watched [] xs = true
slots_sound watched (n ∷ ns) [] = true
slots_sound watched (n ∷ ns) (x ∷ xs) = slot_sound watched n x && slots_sound watched ns xs

-- whether an incomplete file of the same channel and application is among some slots
unfoldable pub twin_in : Slot → List Slot → Bool
twin_in x [] = false
twin_in x (y ∷ ys) = incomplete y && of_pair x.channel x.application y || twin_in x ys

-- a slot that is the owner of n blocks, and of whose pair no other incomplete file is among the slots behind it
abbrev pub sound_alone : List ℕ → ℕ → Slot → List Slot → Bool
sound_alone watched n x behind = slot_sound watched n x && not (incomplete x && twin_in x behind)

unfoldable pub no_twins : List Slot → Bool
no_twins [] = true
no_twins (x ∷ xs) = not (incomplete x && twin_in x xs) && no_twins xs

unfoldable pub desk_holds : Desk → Bool
desk_holds d = leb d.held 8197 && ltb d.counter.0 0x1000000 && (d.seen || eqb d.counter.0 0 && eqb d.held 0)

-- what the state alone says
unfoldable pub is_sound : Station → Bool
is_sound s =
    set_up_sound s.channels (named s) s.blocks && each is_owner (table s) && slots_sound (named s) (block_counts (table s) 0 32) s.slots
    && no_twins s.slots
    && each desk_holds (take s.channels s.desks)

-- a good header whose packet is longer than the h octets held
unfoldable pub longer : ℕ → Look → Bool
longer h Short = false
longer h Bad = false
longer h (Good p) = ltb h (size_of p)

unfoldable pub octets_held : ℕ → List ℕ → Bool
octets_held h d = all_zero (drop h d) && (ltb h 6 || longer h (look_of d))

-- the desks from number i on, with their octets
unfoldable pub desks_held : ℕ → List Desk → List ℕ → Bool
desks_held i [] desks = true
desks_held i (d ∷ ds) desks = octets_held d.held (desk_octets i desks) && desks_held (suc i) ds desks

-- what the desks' octets say
unfoldable pub are_desks_sound : Station → List ℕ → Bool
are_desks_sound s desks = desks_held 0 (take s.channels s.desks) desks
