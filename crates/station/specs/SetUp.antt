-- Set-up. Assumes nothing.
use Rattle.std.specs.Prelude.{Bool, not, ◌&&◌, List, ◌++◌, map, ℕ, ◌-◌, ◌*◌, ◌/◌, ◌%◌, leb, eqb, length, replicate, if◌then◌else◌}
use Rattle.frame.specs.declared.Channel.{Channel}
use Rattle.state.specs.declared.Station.{Station}
use Rattle.state.specs.Slots.{no_file, empty_desk, all_zero_state}
use Rattle.state.specs.Decision.{good_channels}

-- everything that comes out of set-up; the store is lent for reading
pub record SetUpOutcome : Type 0 where
  pub answer : ℕ
  pub station : Station
  pub desks : List ℕ

abbrev pub set_up_gives : ℕ → Station → List ℕ → SetUpOutcome
set_up_gives n s desks = record { answer = n; station = s; desks = desks }

-- "desks not 8,198 octets a channel"
abbrev pub desks_fit : ℕ → List ℕ → Bool
desks_fit channels desks = eqb (length desks) (8198 * channels)

-- "store not whole blocks, 1 to 4,096"
abbrev pub whole_blocks : List ℕ → Bool
whole_blocks store = eqb (length store % 8190) 0 && leb 1 (length store / 8190) && leb (length store / 8190) 4096

abbrev pub channel_of : ℕ → Channel
channel_of n = record { 0 = n }

-- "A fresh station has empty desks (all octets zero), no held file, all blocks free"
unfoldable pub fresh_station : ℕ → List ℕ → ℕ → Station
fresh_station craft channels blocks =
    record {
      spacecraft = craft;
      channels = length channels;
      watched = map channel_of channels ++ replicate (8 - length channels) (channel_of 0);
      desks = replicate 8 empty_desk;
      blocks = blocks;
      owner = replicate 4096 0;
      slots = replicate 32 no_file;
    }

-- "at set-up 10 comes before 1"; "Every number but 0 .. changes nothing; a refused set-up's state is all zero"
unfoldable pub set_up : ℕ → List ℕ → List ℕ → List ℕ → SetUpOutcome
set_up craft channels desks store =
    if not (good_channels channels) then set_up_gives 10 all_zero_state desks
    else if not (desks_fit (length channels) desks && whole_blocks store) then set_up_gives 1 all_zero_state desks
    else set_up_gives 0 (fresh_station craft channels (length store / 8190)) (replicate (length desks) 0)
