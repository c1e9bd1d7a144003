-- "Memory", and what M, P and Q do to it. Assumes nothing.
use Rattle.std.specs.Prelude.{List, ℕ, ◌%◌, min, eqb, length, take, set, if◌then◌else◌}
use Rattle.state.specs.declared.Station.{Station}
use Rattle.script.specs.declared.Command.{Command}
use Rattle.script.specs.declared.Run.{Run}
use Rattle.script.specs.Pokes.{poked}

-- the state, the desk buffer and the store buffer, and how many octets of each are lent to a call
pub record Memory : Type 0 where
  pub station : Station
  pub desks : List ℕ
  pub store : List ℕ
  pub desks_lent : ℕ
  pub store_lent : ℕ

-- what a trial holds, with the two buffers
abbrev pub memory : Run → List ℕ → List ℕ → Memory
memory r desks store = record { station = r.station; desks = desks; store = store; desks_lent = r.desks; store_lent = r.store }

-- "The first so many octets of each are lent to a call"
abbrev pub lent_desks : Memory → List ℕ
lent_desks w = take w.desks_lent w.desks

abbrev pub lent_store : Memory → List ℕ
lent_store w = take w.store_lent w.store

-- the memory with another state, and the buffers as they were
abbrev pub with_state : Memory → Station → Memory
with_state w s = record { station = s; desks = w.desks; store = w.store; desks_lent = w.desks_lent; store_lent = w.store_lent }

-- M: "from now on c octets of desks and d octets of store are lent (each cut down to the buffer)"
unfoldable pub lent : Command → Memory → Memory
lent x w =
    record {
      station = w.station;
      desks = w.desks;
      store = w.store;
      desks_lent = min x.c (length w.desks);
      store_lent = min x.d (length w.store);
    }

-- P: "the octet at index d of the desks (a = 0) or of the store (a = 1) becomes b modulo 256; an index past the buffer, or a over 1, does
-- nothing": `set` past the end changes nothing
unfoldable pub octet_set : ℕ → Command → List ℕ → List ℕ
octet_set buffer x xs = if eqb x.a buffer then set xs x.d (x.b % 256) else xs

unfoldable pub octet_poked : Command → Memory → Memory
octet_poked x w =
    record {
      station = w.station;
      desks = octet_set 0 x w.desks;
      store = octet_set 1 x w.store;
      desks_lent = w.desks_lent;
      store_lent = w.store_lent;
    }

-- Q: "a field of the state becomes d"
unfoldable pub state_poked : Command → Memory → Memory
state_poked x w = with_state w (poked x.a x.b x.d w.station)

-- by the letter: M, P and Q; every other changes nothing here
unfoldable pub poked_by : Command → Memory → Memory
poked_by x w =
    if eqb x.letter 0x4D then lent x w
    else if eqb x.letter 0x50 then octet_poked x w
    else if eqb x.letter 0x51 then state_poked x w
    else w
