-- "sorted by channel": a frame that is not refused goes to the desk of the channel that its header names. Assumes nothing.
use Rattle.std.specs.Prelude.{Ok}
use mathlib.Core.Path.{◌≡◌, sym, ap, ◌∙◌}
use mathlib.Core.List.{List}
use Prim.Native.Nat.{ℕ, ◌<◌}
use native.Mathlib.Nat.{lt_of_lt_of_le, min-le_left}
use lib.ListN.{length, take, length-take, get_or-map}
use lib.Seq.{get_or-take}
use Rattle.frame.specs.declared.Accepted.{Accepted}
use Rattle.frame.specs.Header.{derandomised, frame_of}
use Rattle.frame.specs.Refusals.{examined}
use Rattle.frame.proofs.Answers.{good-header}
use Rattle.frame.proofs.Desks.{Stands, desk-at}
use Rattle.state.specs.declared.Station.{Station}
use Rattle.state.specs.Slots.{number}
use Rattle.judge.specs.Contract.{Watched}
use Rattle.station.specs.SetUp.{channel_of}
use Rattle.station.specs.Frame.{channel_at}

module _ (s : Station) (f : List ℕ) (a : Accepted) (e : examined s.spacecraft (take s.channels s.watched) f ≡ Ok a) where
  stands : Stands (frame_of (derandomised f)).channel (channel_of 0) (take s.channels s.watched) a.desk
  stands =
      let ws = take s.channels s.watched in
      desk-at (frame_of (derandomised f)).channel (channel_of 0) ws a.desk (good-header s.spacecraft ws f a e).desk

  pub desk-low : a.desk < s.channels
  desk-low =
      lt_of_lt_of_le stands.within (simp length-take (min-le_left s.channels (length s.watched)))

  -- THE law: the channel of the frame's desk is the one that its header names
  pub desk-channel : channel_at s a.desk ≡ (frame_of (derandomised f)).channel
  desk-channel =
      let same : (channel_at s a.desk).0 ≡ (frame_of (derandomised f)).channel.0 =
      ap number (sym (get_or-take s.channels s.watched a.desk (channel_of 0) desk-low)) ∙ stands.same in
      λ i. record { 0 = same i }

  pub desk-watched : Watched s (channel_at s a.desk)
  desk-watched =
      record {
        place = a.desk;
        low = desk-low;
        here =
            get_or-map number (take s.channels s.watched) a.desk (channel_of 0) ∙ stands.same
            ∙ ap number (sym desk-channel);
      }
