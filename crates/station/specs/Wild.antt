-- States that no run reaches, and slots that no station has: what a read and letting a file go say of them. Assumes nothing.
use Rattle.std.specs.Prelude.{◌≡◌, true, List, [], ◌∷◌, ◌++◌, map, ℕ, replicate}
use Rattle.state.specs.declared.Desk.{Desk}
use Rattle.state.specs.declared.Station.{Station}
use Rattle.state.specs.Slots.{no_file, empty_desk, all_zero_state}
use Rattle.station.specs.SetUp.{channel_of, fresh_station}
use Rattle.station.specs.Files.{kept, file_let_go, read_gives, read_out}

infix 70 let-go◌from◌gives◌ any-read-from◌gives◌
pub data Case : Type 0 where
  let-go◌from◌gives◌ : ℕ → Station → ℕ → Case
  any-read-from◌gives◌ : Station → ℕ → Case

-- a fresh station with four channels and so many blocks
abbrev set-up : ℕ → Station
set-up blocks = fresh_station 1 (0 ∷ 1 ∷ 2 ∷ 3 ∷ []) blocks

-- so many of the channels 0 to 7, desks and owners as given, seven blocks, no file held
abbrev station : ℕ → List Desk → List ℕ → Station
station channels desks owner =
    record {
      spacecraft = 1;
      channels = channels;
      watched = map channel_of (0 ∷ 1 ∷ 2 ∷ 3 ∷ 4 ∷ 5 ∷ 6 ∷ 7 ∷ []);
      desks = desks;
      blocks = 7;
      owner = owner;
      slots = replicate 32 no_file;
    }

-- a desk that holds so many octets
abbrev holding : ℕ → Desk
holding n = record { held = n; seen = true; counter = record { 0 = 0 } }

abbrev no_desk : List Desk
no_desk = replicate 8 empty_desk

abbrev no_owner : List ℕ
no_owner = replicate 4096 0

unfoldable pub cases : List Case
cases =
    -- "a refused set-up's state is all zero, which isn't sound"; no store has its 0 blocks and 1 to 4,096
    (any-read-from all_zero_state gives 1)
    ∷ (let-go 0 from all_zero_state gives 2)
    -- "1 to 4,096 blocks"
    ∷ (any-read-from set-up 4097 gives 1)
    ∷ (let-go 0 from set-up 4097 gives 2)
    -- "1 to 8 distinct channels"
    ∷ (let-go 0 from station 0 no_desk no_owner gives 2)
    ∷ (let-go 0 from station 8 no_desk no_owner gives 11)
    ∷ (let-go 0 from station 9 no_desk no_owner gives 2)
    -- "each desk holds 0 to 8,197 octets", of the channels that are watched
    ∷ (let-go 0 from station 4 (holding 8197 ∷ replicate 7 empty_desk) no_owner gives 11)
    ∷ (let-go 0 from station 4 (holding 8198 ∷ replicate 7 empty_desk) no_owner gives 2)
    ∷ (let-go 0 from station 4 (replicate 4 empty_desk ++ holding 8198 ∷ replicate 3 empty_desk) no_owner gives 11)
    -- "each block is free or stands at one place of one held slot"; past the store's blocks there is none to judge
    ∷ (let-go 0 from station 4 no_desk (1 ∷ replicate 4095 0) gives 2)
    ∷ (let-go 0 from station 4 no_desk (33 ∷ replicate 4095 0) gives 2)
    ∷ (let-go 0 from station 4 no_desk (replicate 7 0 ++ 255 ∷ replicate 4088 0) gives 11)
    -- "slot 32 or more"
    ∷ (let-go 32 from set-up 7 gives 11)
    ∷ (let-go 65535 from set-up 7 gives 11)
    ∷ []

-- what each case says: the number, and that nothing changes
abbrev pub Right : Case → Type 0
Right (let-go k from s gives n) = file_let_go s k ≡ kept s n
Right (any-read-from s gives n) =
    (store : List ℕ) (k offset : ℕ) (buffer : List ℕ) → read_out s store k offset buffer ≡ read_gives n buffer

-- each of some cases is right
abbrev pub Every : List Case → Type 0
Every [] = Unit
Every (c ∷ cs) = Right c × Every cs
