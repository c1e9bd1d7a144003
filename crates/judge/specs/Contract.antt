-- What the functions that decide about a packet and those that do what was decided (`act`) ask and promise, in one form for all. Assumes nothing.
use Rattle.std.specs.Prelude.{◌≡◌, List, ℕ, ◌+◌, ◌*◌, ◌≤◌, ◌<◌, length, get_or}
use Rattle.octets.specs.Buffer.{put}
use Rattle.frame.specs.declared.Channel.{Channel}
use Rattle.packet.specs.declared.Look.TheVariants.{Good}
use Rattle.packet.specs.Header.{packet_of, look_of, size_of}
use Rattle.state.specs.declared.Station.{Station}
use Rattle.state.specs.Slots.{named}
use Rattle.state.specs.Sound.{Sound}
use Rattle.events.specs.Event.{flat}
use Rattle.judge.specs.Judge.{Judged}

-- a sound state, its store, and a list with room for m more events after the n that it has
pub record Ready (s : Station) (store list : List ℕ) (n m : ℕ) : Type 0 where
  pub sound : Sound s
  pub owners : length s.owner ≡ 4096
  pub blocks : length store ≡ 8190 * s.blocks
  pub enough : 3 * (n + m) ≤ length list

-- the channel is watched
pub record Watched (s : Station) (c : Channel) : Type 0 where
  pub place : ℕ
  pub low : place < s.channels
  pub here : get_or (named s) place 0 ≡ c.0

-- a packet with a good header, all of it
pub record Whole (p : List ℕ) : Type 0 where
  pub good : look_of p ≡ Good (packet_of p)
  pub all : length p ≡ size_of (packet_of p)

-- what came out is what was to come of it: the state t, the number m of events, the store, and the events behind the n that the list had
pub record Tells (j : Judged) (n : ℕ) (list₀ : List ℕ) (t : Station) (m : ℕ) (store list : List ℕ) : Type 0 where
  pub station : t ≡ j.station
  pub events : m ≡ n + length j.events
  pub wrote : store ≡ j.store
  pub listed : list ≡ put list₀ (3 * n) (flat j.events)
