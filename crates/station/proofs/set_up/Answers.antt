-- `set_up` meets its contract, test after test. Assumes nothing.
use mathlib.Core.Path.{◌≡◌}
use mathlib.Core.Bool.{true, false}
use mathlib.Core.List.{List}
use Prim.Native.Nat.{ℕ, ◌*◌, ◌/◌}
use native.Mathlib.Omega.{arith}
use borrow.Author.Tests.{eq-eqb, ne_eqb}
use lib.ListN.{length, replicate, length-replicate}
use Rattle.octets.specs.Buffer.{put}
use Rattle.octets.proofs.Put.{put_whole}
use Rattle.octets.proofs.Tests.{denied, granted}
use Rattle.state.specs.declared.Station.{Station}
use Rattle.state.specs.Slots.{all_zero_state}
use Rattle.state.specs.Decision.{good_channels}
use Rattle.station.specs.declared.Answered.{Answered}
use Rattle.station.specs.SetUp.{set_up_gives, whole_blocks, fresh_station, set_up}
use Rattle.station.specs.Files.{answered}
use Rattle.station.proofs.Fresh.{few-channels, whole-store}
use Rattle.station.proofs.set_up.Goals as goal

module _ (craft : ℕ) (channels desks store : List ℕ) {r : Answered} where
  bad-channels : r ≡ answered 10 all_zero_state → good_channels channels ≡ false
      → set_up_gives r.answer r.station desks ≡ set_up craft channels desks store
  unfolding set_up
  bad-channels e bad = rw (e, bad)

  module _ (good : good_channels channels ≡ true) where
    other-desks : r ≡ answered 1 all_zero_state → (length desks ≡ 8198 * length channels → ⊥)
        → set_up_gives r.answer r.station desks ≡ set_up craft channels desks store
    unfolding set_up
    other-desks e f = rw (e, good, ne_eqb _ _ f)

    module _ (fit : length desks ≡ 8198 * length channels) where
      other-store : r ≡ answered 1 all_zero_state → whole_blocks store ≡ false
          → set_up_gives r.answer r.station desks ≡ set_up craft channels desks store
      unfolding set_up
      other-store e other = rw (e, good, eq-eqb _ _ fit, other)

      all_right : {s : Station} {d : List ℕ} → r ≡ answered 0 s → s ≡ fresh_station craft channels (length store / 8190)
          → d ≡ put desks 0 (replicate (length desks) 0) → whole_blocks store ≡ true
          → set_up_gives r.answer r.station d ≡ set_up craft channels desks store
      unfolding set_up
      all_right e q p whole =
          rw (e, q, p, put_whole desks (replicate (length desks) 0) (length-replicate (length desks) 0), good, eq-eqb _ _ fit, whole)

pub returns-then-not-good_channels : goal.returns-then-not-good_channels
returns-then-not-good_channels c = bad-channels _ _ _ _ c.not_set_up.ensures (search denied)

pub overflow_mul-channels : goal.overflow_mul-channels
overflow_mul-channels c =
    let few = few-channels c.args.channels.now (search granted) in
    omega arith

pub returns-then-desks-channels : goal.returns-then-desks-channels
returns-then-desks-channels c = other-desks _ _ _ _ (search granted) c.not_set_up-then-desks-channels.ensures c.if-desks-channels.true

pub returns-then-not-whole_blocks : goal.returns-then-not-whole_blocks
returns-then-not-whole_blocks c = other-store _ _ _ _ (search granted) c.if-desks-channels.false c.not_set_up-then-not-whole_blocks.ensures (search denied)

pub overflow_cast-blocks : goal.overflow_cast-blocks
overflow_cast-blocks c =
    let whole = whole-store c.args.store.now (search granted) in
    omega arith

pub fresh_station-station-requires : goal.fresh_station-station-requires
fresh_station-station-requires c = search granted

pub returns : goal.returns
returns c = all_right _ _ _ _ (search granted) (omega arith) c.say.ensures c.fresh_station-station.ensures c.blank.ensures (search granted)
