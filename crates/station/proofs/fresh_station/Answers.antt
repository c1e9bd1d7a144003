-- `fresh_station` meets its contract, by those of `watch` and `zero`. Assumes nothing.
use native.Mathlib.Omega.{arith}
use Rattle.station.specs.SetUp.{fresh_station}
use Rattle.station.proofs.Fresh.{few-channels}
use Rattle.station.proofs.fresh_station.Goals as goal

pub overflow_cast-s : goal.overflow_cast-s
overflow_cast-s c =
    let few = few-channels c.args.channels.now c.requires in
    omega arith

pub returns : goal.returns
unfolding fresh_station
returns c = rw (c.zero-s.ensures, c.watch-watched.ensures)
